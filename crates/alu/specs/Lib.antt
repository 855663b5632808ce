pub mod FlagByte
pub mod Arithmetic
pub mod Logical
pub mod Rotate
pub mod Decimal
pub mod Conditions
pub mod ForCode
