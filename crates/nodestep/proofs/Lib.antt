-- The step of a node, by its kind, from its bytes, and from what the code has read of it.
pub mod NodeSteps
pub mod Reading
pub mod Arms
