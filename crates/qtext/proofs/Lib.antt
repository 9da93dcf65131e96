-- Texts written in parts; loops that read; numerals; how texts come apart; that words spelled out are read again, and
-- that words that were read are spelled so.
pub mod CutLines
pub mod Fronts
pub mod HexPieces
pub mod Loops
pub mod Numerals
pub mod Splitting
pub mod Joining
pub mod WordsAgain
pub mod StepsFound
pub mod WordsFound
pub mod DataFound
pub mod DigitLanes
pub mod ByteLanes
pub mod Decoding
