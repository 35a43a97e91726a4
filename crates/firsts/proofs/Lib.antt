-- What a node gives, arm by arm, and how it is put.
pub mod Arms
pub mod Giving
pub mod Passing
