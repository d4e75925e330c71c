pub mod Merged
pub mod Zipping
pub mod Standing
pub mod Turning
pub mod Outcomes
pub mod Statements
pub mod Examples
