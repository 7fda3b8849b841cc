pub mod Books
pub mod Lives
pub mod Laws
pub mod Answers
pub mod Replays
