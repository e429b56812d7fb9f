pub mod Asking
pub mod Faults
pub mod Lines
pub mod Rows
pub mod Shared
pub mod Taking
