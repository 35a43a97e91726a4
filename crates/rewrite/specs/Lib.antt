-- Rewriting: what it answers and leaves. The clocks, the new numbers, the blocks and the new table are in the crates clocks, numbers, blocks and writing.
pub mod Rewrites
-- What rewriting keeps.
pub mod Keeps
-- What the code answers with a refusal, and what it hands on of each node.
pub mod Computed
