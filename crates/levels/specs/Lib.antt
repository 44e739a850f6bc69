pub mod Ranges
pub mod Order
pub mod Views
