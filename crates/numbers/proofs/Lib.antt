-- Sums, the lengths of blocks and where they stand.
pub mod Sums
pub mod Numbering
-- The code: counting and numbering, node by node.
pub mod Counting
