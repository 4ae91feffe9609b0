-- Laws of the completion time test, one subject per file, and its theorems.
pub mod Bounds
pub mod Sums
pub mod Releases
pub mod Iteration
pub mod Rounds
pub mod Interference
pub mod Groups
pub mod Alike
pub mod Words
pub mod Theorems
pub mod TimedLaws
pub mod WithoutJitter
pub mod WithoutOverrun
