-- What the matches of a command line say of a job, and words that ask for one, of words that are cut into pairs, and of how it is told.
pub mod JobLaws
pub mod Asked
pub mod PairLaws
pub mod TellingLaws
