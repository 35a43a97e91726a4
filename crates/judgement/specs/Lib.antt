-- What both judges answer, what an answer means, and the refusals that both give besides a table's own.
pub mod Refused
pub mod Meant
pub mod BySamples
pub mod Refusals
