-- The lines of a text, and a script of one; that scripts and journals that are spelled out are read again; what those
-- are that were read, or were written; all this of journals that begin at a place.
pub mod RawLines
pub mod OneLine
pub mod LinesAgain
pub mod ScriptsAgain
pub mod ScriptsFound
pub mod Entries
pub mod JournalsAgain
pub mod EntriesFound
pub mod JournalsFound
pub mod JournalsWritten
pub mod Segments
pub mod SegmentsFound
pub mod SegmentsAgain
mod EntriesJoined
