-- ---- what the customer must believe of comparing, from document 02 (v)
pub mod Differences
pub mod Comparing
pub mod Answers
pub mod Statements
pub mod Examples
-- ---- what serves the contracts of the code's own functions
pub mod Merging
