-- Laws that let a verdict need fewer rounds.
pub mod Utilisation
pub mod Early
pub mod StartBound
