mod Books
mod Lists
