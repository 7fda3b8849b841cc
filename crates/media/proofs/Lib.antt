pub mod ChunkLaws
pub mod MediaLaws
pub mod PartLaws
pub mod PlanLaws
