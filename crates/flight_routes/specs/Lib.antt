pub mod Laws
pub mod RowRoutes
pub mod ScriptRoutes
pub mod Shards
