pub mod Writing
pub mod Wording
pub mod Fitting
pub mod Printing
