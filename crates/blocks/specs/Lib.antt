-- The blocks that nodes are rewritten to: the page's lists,
pub mod Blocks
-- and the block as the code makes it.
pub mod Computed
