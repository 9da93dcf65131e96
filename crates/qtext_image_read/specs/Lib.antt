-- In reading order: digits and other words that are borrowed; the row that a value tells of; what a line says.
pub mod Digits
pub mod Words
pub mod ImageRows
pub mod Lines
