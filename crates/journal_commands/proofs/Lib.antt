mod Marked
mod PartNames
mod Places
