pub mod Latches
pub mod Steady
pub mod Orders
pub mod Legal
pub mod Entries
pub mod Held
