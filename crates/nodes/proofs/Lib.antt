-- Laws of the nodes, for the proofs of this crate and of the crates above.
pub mod Lookup
pub mod Coded
pub mod Shapes
pub mod Placing
pub mod Built
pub mod Fits
pub mod Clocking
pub mod Versions
pub mod Based
pub mod Sorting
