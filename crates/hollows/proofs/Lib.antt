-- Laws that the proofs of this crate and of `table` cite.
pub mod Keeping
