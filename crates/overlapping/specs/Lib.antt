-- ---- what serves the contracts of the code's own functions: stretches and keys that share a byte
pub mod Overlaps
