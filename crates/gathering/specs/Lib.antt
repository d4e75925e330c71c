-- ---- what serves the contracts of the code's own functions: keys gathered from a store's elements
pub mod Gathering
