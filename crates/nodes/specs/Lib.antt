-- What the nodes of a table's bytes are, in the page's order, with no word of what they mean.
pub mod Operators
pub mod Nodes
pub mod NodeClock
-- What the code has as enums.
pub mod Sorts
-- What the code is held to on the way there.
pub mod Computed
