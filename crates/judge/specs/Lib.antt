-- What the judge and match ends answer and leave, in the page's order. What they refuse stands in `settling`.
pub mod Rows
pub mod Judges
-- The same of a table of version 1, over samples.
pub mod BySamples
-- What the code is held to on the way there.
pub mod Computed
