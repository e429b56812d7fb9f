pub mod OlderText
pub mod Groups
pub mod GroupRows
pub mod LegRows
pub mod PairRows
pub mod PickupRows
pub mod Together
