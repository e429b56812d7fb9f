mod Common
mod Lacking
mod Listings
pub mod LiveTexts
mod Making
mod Passes
mod Picks
mod Waiters
