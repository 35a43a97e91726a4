-- A node's operands, and what a node's row means by the rows of its operands.
pub mod Operands
pub mod SequenceRows
pub mod PropertyAnswers
