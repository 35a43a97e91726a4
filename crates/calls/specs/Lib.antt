-- What the base calls are given.
pub mod Taken
-- What the calls refuse, answer and leave, of tables of versions 1 to 3.
pub mod Refusals
pub mod Rewrites
pub mod Judges
