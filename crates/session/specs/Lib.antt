-- What a reader of the session must believe.
pub mod State
pub mod Operations
pub mod Asking
pub mod Steps
pub mod Timing
pub mod Mapping
pub mod InWords
pub mod WithoutJitter
pub mod WithoutNumbers
-- What the code between the functions for users cites: need no belief.
pub mod Lent
