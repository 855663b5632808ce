pub mod Arms
pub mod Theorems
