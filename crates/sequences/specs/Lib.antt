-- What a sequence's row is.
pub mod Made
