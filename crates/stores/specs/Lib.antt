pub mod Images
pub mod Layout
pub mod Stores
pub mod Plans
