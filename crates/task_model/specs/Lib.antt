-- What a reader of the task model must believe.
pub mod Limits
pub mod Checks
pub mod WithoutJitter
pub mod WithoutNumbers
