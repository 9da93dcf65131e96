-- In reading order. A module that no public clause cites says so.
pub mod Paths
pub mod Parents
pub mod Faults
pub mod Owners
