-- ---- what the customer must believe of a store's elements, from document 01 and Arm's pages, and what is promised of counters
pub mod Machine
pub mod Counter
pub mod Stores
pub mod Elements
pub mod Statements
-- ---- what serves the contracts of the code's own functions
pub mod Accesses
