pub mod Mapping
pub mod Maxima
pub mod Ruling
pub mod Lawful
