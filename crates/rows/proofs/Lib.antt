-- Laws of the rows.
pub mod Filling
