-- ---- what the customer must believe: the three demands
pub mod Demand1
pub mod Demand2
pub mod Demand3
-- and the sentences of document 02 that aren't theirs
pub mod Steps
pub mod Spacing
pub mod Editions
pub mod Strict
