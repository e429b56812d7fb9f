pub mod Keeping
mod Lines
mod Walking
