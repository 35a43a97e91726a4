-- A table as bytes, bytes put into what is lent, and nodes with new operand numbers.
pub mod Encoding
pub mod Moved
