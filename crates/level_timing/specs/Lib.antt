-- What a reader of the timing under a list of levels must believe.
pub mod Levels
