-- What a refusal is, and those of the first six bytes.
pub mod First
pub mod Heading
-- The number and the node of each reason.
pub mod Reasons
-- What the code is held to on the way there.
pub mod Computed
