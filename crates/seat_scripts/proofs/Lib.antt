pub mod Common
mod Comparing
mod Naming
mod Beginnings
pub mod Inputs
mod Changing
pub mod Reading
mod ReadOn
pub mod Written
pub mod Seals
pub mod Starts
pub mod SealedBoth
pub mod OneTaken
mod Lengths
mod Audits
mod Unasked
pub mod Beside
mod Accepted
mod First
mod Grown
mod Made
mod Whole
mod Rest
pub mod Still
mod Again
pub mod Judged
pub mod Replayed
pub mod GoneOn
pub mod Sessions
mod KnownAgain
pub mod SideBySide
