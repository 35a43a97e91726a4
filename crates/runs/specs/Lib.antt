-- Runs of places, and what they lead up to.
pub mod Runs
