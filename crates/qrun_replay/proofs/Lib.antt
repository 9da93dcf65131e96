-- What a journal tells of directories, how it is kept where answers stand, what a journal has at the places of its
-- entries, what a run comes to, a journal played again, and that of a run.
pub mod Stats
pub mod Standing
pub mod Placing
pub mod Coming
pub mod Replaying
pub mod GivingBack
