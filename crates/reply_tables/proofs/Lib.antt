mod Writing
mod Answered
mod Tabled
mod Whole
