pub mod FreshLaws
pub mod FrontLaws
pub mod MapLaws
pub mod SortedLaws
pub mod UnfitLaws
