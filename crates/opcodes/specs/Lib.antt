pub mod Map
pub mod ForCode
pub mod Cycles
pub mod Instruction
