-- The new table as bytes: what it is by the page,
pub mod Tables
-- and what the parts of the code put into the bytes lent.
pub mod Computed
