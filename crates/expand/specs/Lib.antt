-- What expanding answers and leaves,
pub mod Expands
-- and what opening a version 3 table does, for the calls above.
pub mod Opens
