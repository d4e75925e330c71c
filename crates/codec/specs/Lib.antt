-- ---- what the customer must believe: a decoded store as eight numbers at the interface, and back
pub mod Codec
pub mod Statements
-- ---- what serves the contracts of the code's own functions
pub mod Narrow
