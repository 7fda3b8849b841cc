pub mod Waiting
pub mod DirtyOps
