-- Laws for the proofs of functions, and the theorems of a store.
pub mod Lists
pub mod Putting
pub mod Filling
pub mod Groups
pub mod Asking
pub mod Earliest
pub mod Theorems
pub mod AtLevels
pub mod WithoutJitter
pub mod StoreCases
