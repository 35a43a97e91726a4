-- What the tests of a table mean, and the theorems of checking it, for the crates above.
pub mod Theorems
pub mod Forming
pub mod Reading
pub mod Standing
pub mod VersionOne
pub mod Repeats
pub mod Topping
pub mod Within
pub mod CheckingTo
pub mod Checking
pub mod Answering
