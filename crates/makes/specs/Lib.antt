pub mod CountsKind
pub mod TreeBooks
pub mod Sounds
