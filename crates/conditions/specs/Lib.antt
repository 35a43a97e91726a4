-- The sets of a table's booleans.
pub mod Conditions
