-- The theorem of expanding,
pub mod Theorems
-- and how its code meets its contract: the expanded table from its parts, the answers of opening a table, and those of expanding.
pub mod Unfolding
pub mod Opening
pub mod Copying
pub mod Expanding
