-- ---- what serves the contracts of the code's own functions: keys of elements, and their order
pub mod Keys
