pub mod Casts
pub mod Gathers
pub mod Paths
pub mod Visiting
pub mod Visits
