-- ---- what the customer must believe of bytes, from document 01
pub mod LittleEndian
pub mod Overwriting
