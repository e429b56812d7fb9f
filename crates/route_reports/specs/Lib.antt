pub mod RouteDesk
