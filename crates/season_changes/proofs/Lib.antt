mod Becoming
mod Comparisons
mod Lines
mod Numbering
mod Seating
mod Summing
mod TwoSeasons
