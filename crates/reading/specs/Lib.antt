-- ---- what the customer must believe of reading a patch, from document 01
pub mod Reader
pub mod Stops
