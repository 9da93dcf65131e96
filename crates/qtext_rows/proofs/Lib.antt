-- Digits and escapes of values; lines and fields, one after the other.
pub mod Digits
pub mod Escapes
pub mod LineObjects
pub mod NamedValues
pub mod Records
