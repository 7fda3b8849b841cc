pub mod Lookups
pub mod Plans
pub mod Bodies
pub mod Operations
pub mod Laws
