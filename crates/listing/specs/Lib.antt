-- What a reader of the listing must believe.
pub mod Lines
pub mod Listing
pub mod FirstEdition
-- A reader need not believe these: bounds that only internal functions use, and the text of a group.
pub mod Room
pub mod Groups
-- Only the theorems use these.
pub mod Timed
