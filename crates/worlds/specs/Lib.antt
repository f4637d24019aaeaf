pub mod Stops
pub mod Worlds
