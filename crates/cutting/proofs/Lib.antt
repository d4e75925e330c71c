pub mod Shapes
pub mod Putting
pub mod Copying
pub mod Composing
pub mod Made
pub mod Patched
pub mod Spacing
pub mod Turning
