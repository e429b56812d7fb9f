mod Fronts
mod Kept
