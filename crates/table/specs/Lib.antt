pub mod Rows
pub mod Places
pub mod Soundness
pub mod Views
