pub mod SetLaws
pub mod WordLaws
