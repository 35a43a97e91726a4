-- Laws of until, of what follows a match, and of sets that are read off a row.
pub mod Implying
pub mod Reading
pub mod UntilRuns
