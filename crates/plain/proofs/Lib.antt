-- What the plain judge answers, that no second answer fits, and the three demands.
pub mod Judging
pub mod Unique
pub mod Demands
