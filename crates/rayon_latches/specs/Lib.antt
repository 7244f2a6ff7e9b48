pub mod Awaited
pub mod Kinds
