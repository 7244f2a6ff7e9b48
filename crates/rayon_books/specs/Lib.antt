pub mod Books
pub mod Outcomes
pub mod Pieces
pub mod Receipts
