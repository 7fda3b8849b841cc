pub mod Media
pub mod Memory
pub mod Parts
pub mod Plans
pub mod WholeLaws
