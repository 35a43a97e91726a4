-- The pieces that a derived node is expanded to, as forms, and what one step says of a piece.
pub mod Pieces
-- What the code is held to on the way there.
pub mod Steps
