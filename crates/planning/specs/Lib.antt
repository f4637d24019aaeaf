pub mod Meaning
pub mod Plans
pub mod Finding
pub mod Ranks
pub mod Theory
pub mod Going
