pub mod Good
pub mod Acts
pub mod Held
pub mod Turns
pub mod Theorems
