-- The meaning leaves one answer, a longer record never overturns a 3 or a 0, and version 1 answers stay: of a judge of any make that keeps to the meaning.
pub mod Unique
pub mod Lasting
pub mod VersionOne
