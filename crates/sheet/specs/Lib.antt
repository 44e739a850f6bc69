pub mod Faults
pub mod Sheets
pub mod Taken
pub mod Outcomes
pub mod Views
