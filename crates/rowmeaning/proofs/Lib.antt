-- The meaning one step at a time, under any clock, and the words of a row.
pub mod Stepping
pub mod WordBits
-- The rules of the rows and sets, sort by sort, and those that a clock changes.
pub mod BooleanRules
pub mod SequenceRules
pub mod LetterRules
pub mod PropertyRules
pub mod TickRules
pub mod TestedRules
