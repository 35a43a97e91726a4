-- Laws of reading a record.
pub mod Samples
pub mod Deciding
pub mod Unique
