-- What each step says.
pub mod Stepping
