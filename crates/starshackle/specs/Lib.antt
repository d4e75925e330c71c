-- ---- what the customer must believe: what the functions for C and Rust answer, over the definitions of the crates below
pub mod Interface
