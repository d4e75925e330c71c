pub mod Walking
pub mod Ranging
pub mod Spans
pub mod Order
pub mod Checking
