-- Laws of the mapping from a file, and its theorems.
pub mod Nodes
pub mod Answers
pub mod FirstEdition
