mod CodeSums
mod FateTurns
mod Lining
mod Numbering
mod Summing
