pub mod Weights
pub mod Making
pub mod Adding
pub mod Answering
pub mod Carrying
pub mod LegBookings
pub mod StackBookings
