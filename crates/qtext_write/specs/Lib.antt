-- In reading order: parts of a line, and the lines of answers.
pub mod Texts
pub mod Answers
