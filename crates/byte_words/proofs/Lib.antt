-- Laws for the proofs of functions, here and in other crates.
pub mod Words
pub mod Buffers
pub mod Runs
