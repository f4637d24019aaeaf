pub mod Splitting
mod Checking
pub mod Polish
pub mod Masks
pub mod Judging
pub mod Walking
mod Acting
mod Passing
mod Spreading
mod Layouts
