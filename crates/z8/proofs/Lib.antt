pub mod Refusals
pub mod Ways
pub mod Theorems
