-- What a version 3 table is expanded to: forms, the block of each derived operator, the booleans that come first, and the whole table.
pub mod Forms
pub mod Blocks
pub mod Nodes
pub mod Booleans
pub mod Expansion
-- What the code is held to on the way there.
pub mod Formed
