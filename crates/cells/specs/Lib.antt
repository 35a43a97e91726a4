-- Which word of a workspace is whose, what each bit of it is, and how words are laid in.
pub mod Shares
pub mod Bits
pub mod Ready
pub mod Stored
