-- What a node's row is by the rows of its operands.
pub mod Steps
