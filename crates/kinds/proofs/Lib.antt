mod Starting
mod Masks
