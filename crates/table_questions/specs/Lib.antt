pub mod Tables
pub mod LoadRows
pub mod RoomRows
pub mod BookingRows
pub mod SumRows
pub mod HistoryRows
pub mod FlightTable
pub mod CoverRows
