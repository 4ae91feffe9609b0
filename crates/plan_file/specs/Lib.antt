-- What a reader of the plan file must believe.
pub mod Plan
pub mod Editions
pub mod Encoding
pub mod Decoding
pub mod Check
pub mod FirstEdition
pub mod WithoutNumbers
pub mod Find
pub mod Limits
pub mod Answers
pub mod Contents
pub mod Accepted
pub mod RoundTrips
-- A reader need not believe this.
pub mod Marks
-- Only the programs use this.
pub mod Input
