pub mod Parting
pub mod Lengths
pub mod Digits
pub mod Reading
pub mod Joins
pub mod Written
pub mod Stands
