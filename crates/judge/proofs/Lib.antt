-- What the rows mean: the words of a row, all rows of a table, and that no other rows mean the same. What each rule means stands in `rowmeaning`.
pub mod Laid
pub mod Meaning
pub mod Same
-- What is read off them, and that no other answer fits.
pub mod TestedSets
pub mod Judging
pub mod Unique
-- The demands, and that the answers on tables of version 1 stay.
pub mod Demands
pub mod VersionOne
