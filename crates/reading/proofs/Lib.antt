pub mod Steps
pub mod Heads
pub mod Standing
pub mod Scanning
pub mod Stopping
pub mod Loops
pub mod Ends
