-- The page's refusals of the judge and of match ends, and what the code is held to on the way there.
pub mod Refusals
pub mod Computed
