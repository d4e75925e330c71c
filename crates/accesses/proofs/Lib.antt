pub mod Actives
pub mod Masks
pub mod Listing
pub mod Soundness
pub mod Sizes
pub mod Spacing
pub mod Apart
