-- In reading order: what is written, how reading goes, what is read.
pub mod Written
pub mod Pieces
pub mod RuleWords
pub mod Reading
pub mod TextFaults
pub mod Words
pub mod Data
pub mod Digits
pub mod Gives
