-- What a node's row says, and what sets of positions say of a tree under a clock.
pub mod Rows
pub mod Sets
