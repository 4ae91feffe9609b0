-- Laws for the proofs of functions, and the theorems of the converter.
-- The rows and the entries of one edition, stored as those of the other.
pub mod Stored
-- What would be lost.
pub mod Lost
-- What the converter answers.
pub mod Converting
-- Converting again undoes it.
pub mod RoundTrip
-- What the calls leave.
pub mod Theorems
pub mod Examples
