-- What somebody above cites.
pub mod Theorems
pub mod Unique
pub mod Examples
-- The nodes of the new table, and where each stands.
pub mod Cells
pub mod Ordering
-- A table that has no clock node.
pub mod Clockless
-- What the new nodes stand for.
pub mod Standing
pub mod Trees
-- Why the new table is accepted: every node well formed, each in one operand place.
pub mod Fitting
pub mod Forming
pub mod Tallies
pub mod Tiling
pub mod Hits
pub mod Places
pub mod Accepting
-- The code: its refusals, and what it answers at each exit.
pub mod Deciding
pub mod Exits
