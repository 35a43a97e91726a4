-- Laws on plain numbers, which the proofs of this crate and of its callers cite.
pub mod Laws
pub mod Lowest
