pub mod Chaining
pub mod Tracing
pub mod Keeping
pub mod Passing
pub mod Placing
pub mod Filling
pub mod OnePath
