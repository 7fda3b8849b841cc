pub mod Ops
pub mod Rows
pub mod Listing
