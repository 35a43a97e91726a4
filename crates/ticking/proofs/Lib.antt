-- Laws of the sets that a clock changes, and of the letter's words.
pub mod FirstTicks
pub mod LetterWords
pub mod Turning
