-- In reading order: the numbers of faults, the command line, the clients that it names, the numbers that its words
-- spell, what a bound client may take, how it wants to be told, the job that it asks for.
pub mod LineFaults
pub mod Commands
pub mod Pairs
pub mod Numbers
pub mod Shares
pub mod Tellings
pub mod Jobs
