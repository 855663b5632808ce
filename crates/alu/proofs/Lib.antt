pub mod Theorems
pub mod Bytes
pub mod Carries
