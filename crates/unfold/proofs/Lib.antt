-- Writing a piece after its operands.
pub mod Writing
