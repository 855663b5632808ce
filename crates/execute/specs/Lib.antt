pub mod Doing
pub mod Execute
pub mod ForCode
