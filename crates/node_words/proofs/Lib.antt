-- Laws for the proofs of functions, here and in other crates.
pub mod Entries
pub mod Words
pub mod Lists
-- A list that is changed in place, in its words.
pub mod Changing
