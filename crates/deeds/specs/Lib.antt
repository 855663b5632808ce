pub mod Modes
pub mod Results
pub mod Pages
