-- In reading order: the lines of a text, what reading one adds, what a script says, a line whose moment was read,
-- what a journal says, how both are spelled out, and both of a journal that begins at a place.
pub mod RawLines
pub mod Added
pub mod Scripts
pub mod Begun
pub mod Journals
pub mod Spelling
pub mod Segments
