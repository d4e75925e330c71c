-- ---- what serves the contracts of the code's own functions
pub mod Searching
pub mod Runs
