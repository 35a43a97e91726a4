-- Laws of rows laid side by side, and of sets that are joined.
pub mod Copies
pub mod Joining
