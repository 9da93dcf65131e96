-- The parts of lines; the blocks left from an index on; the lines of all rows, joined; what is known of a state whose
-- image was written.
mod Parts
mod BlocksLeft
mod Joined
mod Typing
