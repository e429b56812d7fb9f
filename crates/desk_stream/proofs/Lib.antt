pub mod Feeds
pub mod Hears
pub mod Leading
pub mod Plans
pub mod Sent
pub mod Told
pub mod Wants
