-- In reading order: what files hold, what a file must not be written over, what is written of an outcome, what is saved
-- beside it, what comes of a file for boards.
pub mod Held
pub mod Overwritten
pub mod OutcomeTexts
pub mod Saved
pub mod BoardFiles
