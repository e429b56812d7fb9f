pub mod Deciding
pub mod Handing
pub mod Judging
pub mod Laws
pub mod Marking
pub mod Several
