-- What the code is held to; what it means is shown in `judge`.
pub mod Computed
