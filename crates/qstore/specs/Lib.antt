-- In reading order. A module that no public clause cites says so.
pub mod Stored
pub mod Parts
pub mod Ready
pub mod Applied
pub mod Rows
pub mod Told
pub mod Requests
pub mod Decided
pub mod Targets
pub mod Renamings
pub mod Kept
