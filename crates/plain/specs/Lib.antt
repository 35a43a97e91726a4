-- What the plain judge answers.
pub mod Judges
-- What the code is held to on the way there.
pub mod Computed
