pub mod steps
pub mod lexed
pub mod names
pub mod lines
pub mod again
pub mod printable
pub mod Sending
