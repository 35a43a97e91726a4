-- The bytes of a line.
pub mod Lines
