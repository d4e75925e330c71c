pub mod Given
pub mod Statements
