mod Ascents
mod Finding
mod Meaning
mod Shifting
mod Raises
