-- ---- what the customer must believe: demand 3's sentences on several calls, as contracts of two functions that make them
pub mod Calls
