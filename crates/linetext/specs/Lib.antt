-- The page's line, and what the parts of the code ask of each other.
pub mod Text
pub mod Computed
