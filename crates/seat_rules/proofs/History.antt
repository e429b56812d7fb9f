-- Journals, legal histories and their replay.
pub mod Prefixes
pub mod Legal
pub mod Lines
pub mod Replays
pub mod Totals
pub mod Bounds
pub mod Faults
pub mod Closed
