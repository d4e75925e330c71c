-- ---- what the customer must believe: one element of a word's store, over the elements and verdicts of document 01
pub mod Inspection
pub mod Statements
-- ---- what serves the contracts of the code's own functions
pub mod Steps
