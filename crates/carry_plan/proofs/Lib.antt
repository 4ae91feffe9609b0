-- Laws for the proofs of functions.
pub mod Ways
pub mod Writes
