pub mod ListedLaws
