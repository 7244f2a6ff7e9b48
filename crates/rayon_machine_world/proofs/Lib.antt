pub mod Acted
pub mod Running
pub mod Turning
pub mod Calling
pub mod Made
