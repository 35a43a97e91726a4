-- What the expanded table has and stands for.
pub mod Theorems
pub mod Stepping
pub mod Giving
pub mod Numbering
pub mod Lying
pub mod Standing
pub mod Deriving
pub mod Truths
pub mod Trees
pub mod Table
pub mod Rooting
pub mod Fitting
pub mod Moving
pub mod Tallies
pub mod Accepting
pub mod AnyVersion
