pub mod Figures
pub mod Knowing
pub mod Portioning
pub mod Printing
pub mod Cases
