pub mod Texts
pub mod Judging
pub mod Acting
pub mod Books
pub mod Claims
pub mod Moves
pub mod Laws
