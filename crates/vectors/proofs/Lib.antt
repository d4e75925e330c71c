pub mod Finishing
pub mod Ready
