pub mod Asking
pub mod Galleries
pub mod Watching
pub mod Windows
