-- What writing a piece leaves.
pub mod Puts
