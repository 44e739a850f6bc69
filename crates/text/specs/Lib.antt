pub mod Refusals
pub mod Cuts
pub mod Lines
pub mod Cursor
pub mod Figures
pub mod Written
