pub mod ForCode
