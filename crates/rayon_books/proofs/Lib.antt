mod Books
mod Outcomes
mod Pieces
