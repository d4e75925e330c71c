-- ---- what the customer must believe: the verdicts, from document 01, and what is promised of their table
pub mod Verdicts
pub mod Statements
