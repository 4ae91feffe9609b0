-- What a reader of the mapping from a file must believe.
pub mod Mapping
pub mod FirstEdition
