-- What a step asks of a table, and the operands of a base node.
pub mod Ready
pub mod Operands
