-- What a reader of the program must believe.
pub mod Direction
pub mod Output
