pub mod Counting
pub mod Words
pub mod Faults
pub mod Line
pub mod Grammar
pub mod Views
pub mod Rows
