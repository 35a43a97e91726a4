-- The five kinds of blocks.
pub mod Viewing
-- The code: a block's node i.
pub mod Making
