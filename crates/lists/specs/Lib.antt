pub mod Faults
pub mod Listing
pub mod Texts
pub mod Rows
pub mod Few
pub mod Calls
