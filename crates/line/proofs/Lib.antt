-- The code: where the table part ends, and the line's verdict.
pub mod Parts
pub mod Answering
-- What somebody above cites.
pub mod Theorems
