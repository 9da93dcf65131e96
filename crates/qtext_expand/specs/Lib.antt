-- In reading order: the words of a friendly line, numbers with a unit, moments, names, calls, what one line is written
-- out as, and what a friendly script is.
pub mod FriendlyWords
pub mod Values
pub mod Moments
pub mod Names
pub mod FriendlyCalls
pub mod GivesAs
pub mod Plain
pub mod FriendlyLines
pub mod WrittenAs
pub mod Expansions
