pub mod AfterWrites
pub mod Stored
pub mod Deeds
pub mod Dealt
pub mod Holding
pub mod Listed
