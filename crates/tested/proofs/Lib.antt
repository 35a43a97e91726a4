-- Laws of the sets.
pub mod Setting
