pub mod Pieces
pub mod Left
pub mod Figures
pub mod Words
pub mod Numbers
pub mod Rows
pub mod Format
