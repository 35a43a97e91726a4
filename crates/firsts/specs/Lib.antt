-- The booleans that come first: what a node gives, as the code finds it, and what is left of all.
pub mod Gifts
pub mod Firsts
