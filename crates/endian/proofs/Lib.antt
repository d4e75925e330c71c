pub mod Order
pub mod Parts
pub mod LittleEndian
pub mod Putting
pub mod Copying
