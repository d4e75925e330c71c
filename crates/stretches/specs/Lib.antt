-- ---- what serves the contracts of the code's own functions: stretches of bytes in a window, as numbers, and the intervals that they make
pub mod Intervals
pub mod Stretches
