-- In reading order: what opening a session comes to, what a line of a script does, and what a journal's text says.
pub mod Openings
pub mod Reports
pub mod Lines
pub mod Journals
