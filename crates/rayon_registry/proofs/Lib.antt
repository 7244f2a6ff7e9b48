mod Installs
mod Joins
mod Made
mod Receipts
