mod Compares
mod Noting
mod Reconciling
mod Summing
mod Wording
