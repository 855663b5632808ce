pub mod Legal
pub mod Theorems
pub mod Leaves
