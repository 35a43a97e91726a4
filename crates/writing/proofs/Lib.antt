-- How long the blocks and the new table are.
pub mod Lengths
-- The code: a node's block and the two passes, and what each turn of their loops puts.
pub mod Passes
pub mod Turns
