-- What the code finds of refusals 6 and 7, as tests that antt computes.
pub mod Computed
