-- Laws of the walks.
pub mod Walking
pub mod Covering
pub mod Repeats
