-- Laws of a sequence's row.
pub mod Making
