-- The page's program.
pub mod Program
-- What the code is held to on the way there.
pub mod Computed
