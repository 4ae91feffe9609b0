-- What a reader of refusals and answers must believe.
pub mod Refusals
pub mod Text
pub mod Answers
