-- What a call of the plain engine answers.
pub mod Walk
