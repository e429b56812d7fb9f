-- Waiting lists, and what waits for each place and class.
pub mod Demands
pub mod Index
pub mod Reaching
pub mod Departures
pub mod Room
pub mod Fitting
pub mod Queue
