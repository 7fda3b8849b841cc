pub mod LayoutLaws
pub mod PlanLaws
pub mod StoreLaws
pub mod BlockLaws
