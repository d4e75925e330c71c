-- ---- what the customer must believe: what the merged call answers and leaves
pub mod Storing
-- ---- what serves the contracts of the code's own functions
pub mod Steps
