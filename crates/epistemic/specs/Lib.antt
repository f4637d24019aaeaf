pub mod Lists
pub mod Bits
pub mod Models
pub mod Bisimulations
pub mod Laws
pub mod Cells
pub mod Acts
pub mod Claims
