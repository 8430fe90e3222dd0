pub mod Arithmetic
pub mod Bitwise
pub mod Complement
pub mod Counting
mod Examples
pub mod Extension
pub mod First
pub mod Integers
pub mod Numbers
pub mod Order
pub mod Shifts
pub mod Storage
