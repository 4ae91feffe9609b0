-- Laws for the proofs of functions, here and in other crates.
pub mod Outcomes
pub mod Refusals
