pub mod Inspecting
pub mod Statements
