-- The two judges agree, and the plain one gives the rewritten table the same level.
pub mod Agreement
pub mod Rewritten
