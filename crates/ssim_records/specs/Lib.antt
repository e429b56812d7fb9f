pub mod Cut
pub mod FaultText
pub mod Operating
pub mod RecordFields
pub mod RightSet
pub mod SetFaults
pub mod SetSteps
pub mod SetText
