pub mod Gaps
pub mod Kinds
