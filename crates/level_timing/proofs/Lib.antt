-- Laws of groups under levels that never fall.
pub mod Groups
