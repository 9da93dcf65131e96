-- Which bytes go on.
pub mod Bytes
