pub mod Placing
pub mod Passing
