pub mod Acts
pub mod Answers
pub mod Joins
pub mod Parts
pub mod Pushes
pub mod Scopes
pub mod Worker
