mod Spells
mod Bytes
pub mod Round
mod Judging
pub mod Ordered
pub mod Cutting
pub mod Rowing
pub mod RowLaws
mod Turns
