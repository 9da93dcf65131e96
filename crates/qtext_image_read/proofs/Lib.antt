-- Digits, lane by lane; what digits are read as.
pub mod DigitLanes
pub mod DigitsFound
