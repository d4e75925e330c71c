-- ---- what the customer must believe: document 01's starred cases, in one table, and its whole example through demand 3
pub mod Cases
pub mod Examples
