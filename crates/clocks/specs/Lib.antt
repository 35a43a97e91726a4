-- The clocks of a table's nodes: what they are by the page,
pub mod Clocks
-- and what the code asks of a table and keeps of its clocks.
pub mod Computed
