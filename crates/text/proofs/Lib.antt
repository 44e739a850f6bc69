pub mod Splitting
pub mod Ends
pub mod Padding
mod Commas
mod Pieces
mod Overlays
mod Values
