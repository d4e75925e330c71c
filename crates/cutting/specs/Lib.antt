-- ---- what serves the contracts of the code's own functions: a patch whose payloads are copied from memory
pub mod Cutting
