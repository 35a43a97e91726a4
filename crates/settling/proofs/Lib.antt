-- The code: the refusals, one after the other.
pub mod Refusing
-- What an acceptance says.
pub mod Passing
-- Of any refusal of the table that rewriting answers.
pub mod Stopping
