pub mod Record
-- What the code is held to on the way there.
pub mod Computed
