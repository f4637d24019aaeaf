pub mod Letters
pub mod Readings
pub mod Judgements
pub mod Updating
pub mod Meanings
pub mod Contents
pub mod Moving
pub mod Landing
