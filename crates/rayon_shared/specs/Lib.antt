pub mod AtHand
pub mod Casts
pub mod Marks
pub mod Pools
pub mod Seats
