pub mod Edges
pub mod Grants
pub mod Entry
pub mod ForCode
