-- The new numbers: how many new nodes there are, where each block stands and which node stands for a node, by the page,
pub mod Numbers
-- and what the code answers.
pub mod Computed
