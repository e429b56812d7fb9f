mod Asking
mod Carrying
mod Counting
mod Grounds
mod Joined
mod Steps
mod Stopped
