-- Laws for the proofs of functions, here and in other crates, and the theorems of the checks.
pub mod Tests
pub mod Laws
pub mod Each
pub mod Numbers
pub mod Marks
pub mod Theorems
pub mod Loops
pub mod WithoutJitter
pub mod WithoutNumbers
pub mod OneProof
