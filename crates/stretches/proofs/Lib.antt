pub mod Covering
pub mod Growing
pub mod Merging
pub mod Joining
pub mod Measuring
pub mod Joined
pub mod Keying
