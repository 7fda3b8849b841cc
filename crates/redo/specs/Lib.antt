pub mod Histories
pub mod Prefixes
pub mod Recovery
pub mod WriteGraph
pub mod Installation
pub mod Theorems
pub mod Situations
pub mod Closure
