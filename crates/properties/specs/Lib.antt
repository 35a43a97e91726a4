-- What a property's three words are, and how they are made.
pub mod Shapes
