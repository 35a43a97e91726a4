-- The rows of a table's nodes, and the workspace that they are laid in.
pub mod Rows
