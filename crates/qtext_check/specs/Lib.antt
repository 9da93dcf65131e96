-- In reading order: what is wrong in a line, all that is wrong in a script, which word it is, how it is told, and how
-- words are shown; and what a check of a configuration tells.
pub mod Wrongs
pub mod Faults
pub mod Places
pub mod Found
pub mod Told
pub mod Shown
pub mod Verdicts
