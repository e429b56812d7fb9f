pub mod Hashing
pub mod Live
pub mod Numbers
pub mod Queues
pub mod Demands
pub mod Fitting
pub mod Books
