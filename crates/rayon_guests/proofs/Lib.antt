pub mod Casts
pub mod ScopeCasts
pub mod Visits
