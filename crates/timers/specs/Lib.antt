pub mod Requests
pub mod Control
pub mod Timer
pub mod Clock
pub mod ForCode
