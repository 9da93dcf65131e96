-- Counts behind words, lines beside what they were answered, and the greatest moment of lines.
pub mod CountedLines
pub mod CalledLines
pub mod LastMoments
