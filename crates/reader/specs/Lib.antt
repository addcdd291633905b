pub mod Order
pub mod Faults
pub mod Case
pub mod Steps
pub mod Report
pub mod Format
