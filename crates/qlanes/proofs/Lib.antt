-- How many bytes of 16 lanes go on, and so how many from a place on; where a byte stands first; which bytes are the same.
pub mod Runs
pub mod PrintingLanes
pub mod FirstPlaces
pub mod SameBytes
