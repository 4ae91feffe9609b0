-- What a reader of a node's words must believe.
pub mod Words
pub mod Lists
pub mod Held
pub mod Marks
