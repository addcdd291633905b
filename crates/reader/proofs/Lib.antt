pub mod Stepping
pub mod Written
