mod Steps
mod Whole
mod RowSteps
mod RowWhole
