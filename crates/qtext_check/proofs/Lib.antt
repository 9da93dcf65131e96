-- What a new store declares and refuses, and the faults of lines, one after the other.
pub mod Declared
pub mod Refusals
pub mod Gathered
mod Placed
