pub mod Lists
pub mod Sorting
pub mod Seeking
pub mod Finding
pub mod Judging
pub mod Making
