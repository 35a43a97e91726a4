-- What the code finds of refusal 9: two flags a sequence.
pub mod Flags
