-- To be believed, in this order: what an assertion is, what a word is, what the one says of the other, and whether the other tests it.
pub mod Syntax
pub mod Words
pub mod Meaning
pub mod Tested
-- What an atom reads: a signal of a sample; of a sample and the one before it, a signal, its rise or its fall. A tree of the first kind is one of the second.
pub mod Signal
pub mod Pairs
pub mod Renaming
-- What is answered and shown by them.
pub mod Levels
pub mod Rewriting
pub mod Parts
pub mod Reached
pub mod Examples
