-- Laws of words and workspaces, which the crates above cite.
pub mod Loops
pub mod Laying
