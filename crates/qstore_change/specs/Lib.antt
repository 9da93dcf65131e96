-- In reading order. A module that no public clause cites says so.
pub mod Changes
pub mod Moves
pub mod FileTypes
