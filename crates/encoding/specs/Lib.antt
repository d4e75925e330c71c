-- ---- what the customer must believe of words and decoded stores, from document 01
pub mod Classes
pub mod Decoding
pub mod Encoding
pub mod Answers
pub mod Statements
-- ---- what serves the contracts of the code's own functions
pub mod Layouts
