-- ---- what serves the contracts of the code's own functions: what checks 1 to 6 find of a word's store
pub mod Checking
