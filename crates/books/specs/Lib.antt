pub mod Maps
pub mod Books
pub mod Rule
pub mod Faults
pub mod Calls
pub mod Laws
