pub mod Leaves
pub mod Highest
pub mod Shapes
pub mod Numbers
