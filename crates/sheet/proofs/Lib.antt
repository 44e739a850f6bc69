mod Taking
mod Sheeting
