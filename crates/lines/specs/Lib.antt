pub mod Texts
pub mod Words
pub mod Stops
pub mod Calls
