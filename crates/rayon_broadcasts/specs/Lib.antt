pub mod Books
pub mod Lists
