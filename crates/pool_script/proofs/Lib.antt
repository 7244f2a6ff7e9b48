pub mod Ending
pub mod Adding
