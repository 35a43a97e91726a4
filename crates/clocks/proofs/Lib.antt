-- What a table's clocks are.
pub mod Timing
-- The code: handing them down.
pub mod HandingDown
