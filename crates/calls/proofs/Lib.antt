-- What the base calls are given for a table of any version, and that their statements are then those of the calls.
pub mod Taking
pub mod Carrying
-- What the code asks and returns.
pub mod Opening
pub mod Returning
-- No second answer fits, the demands hold on tables of versions 1 to 3, and older tables are answered as before.
pub mod Unique
pub mod Demands
pub mod Rewritten
pub mod PlainDemands
pub mod Agreement
pub mod Before
-- What the flag comes to.
pub mod Flag
