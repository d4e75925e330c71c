-- ---- what the customer must believe: flags as bits of a number
pub mod Flags
