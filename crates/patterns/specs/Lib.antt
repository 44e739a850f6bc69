pub mod Spellings
pub mod Order
pub mod Texts
pub mod Faults
pub mod Views
pub mod Orders
pub mod Parts
pub mod Promises
