-- Laws that the proofs of the crates above cite.
pub mod Telling
pub mod Filled
