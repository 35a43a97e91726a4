-- Laws of runs.
pub mod Leading
