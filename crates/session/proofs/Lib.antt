-- Laws for the proofs of functions, and the theorems of the session.
pub mod Numbers
pub mod Changing
pub mod Checking
pub mod Reading
pub mod Sequences
pub mod InWords
pub mod Held
pub mod Theorems
pub mod Calls
pub mod Repeats
pub mod Mapping
pub mod WithoutJitter
pub mod WithoutNumbers
