pub mod Choose
pub mod Fields
pub mod Words
pub mod Iter
