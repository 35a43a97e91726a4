-- Laws of the sets of a table's booleans.
pub mod Filling
