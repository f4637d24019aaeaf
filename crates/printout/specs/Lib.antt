pub mod Plans
pub mod Printouts
