-- Laws that the proofs of this crate and of the crates above cite.
pub mod Firsts
pub mod Cases
pub mod Deciding
pub mod Given
pub mod Unique
pub mod Headings
pub mod Errors
