pub mod Bits
mod Reading
mod Judging
pub mod Rowing
