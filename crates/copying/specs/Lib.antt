-- ---- what serves the contracts of the code's own functions: elements put over memory at equal distances
pub mod Spreading
