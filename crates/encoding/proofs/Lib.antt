-- Bytes put into what is lent, the nodes read back from them, and operands by their new numbers.
pub mod Putting
pub mod Reading
pub mod Renumbering
