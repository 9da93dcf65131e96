-- In reading order: what the last of keys that rise says of them all; holders by kind; names as text; nothing told yet;
-- one inode more, one block more, one name more; names and records of which nothing is wrong; how far steps from the
-- root have come; what the counts at the end show, line by line; what is left behind the place at which a loop stands;
-- what is counted of rows; what the tests of all lines have shown; one line more; rows at their end.
pub mod Lasts
pub mod ByKind
pub mod Ascii
pub mod Begun
pub mod MoreInodes
pub mod MoreBlocks
pub mod MoreNames
pub mod Fine
pub mod FineRecords
pub mod Levels
pub mod CountsByLines
pub mod Behind
pub mod Counted
pub mod Opened
pub mod Reading
pub mod Ended
