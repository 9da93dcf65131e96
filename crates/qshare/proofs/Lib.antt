-- Rows put in their places, how rows lead from one board to the next, what a call leaves of a journal, moments that never
-- fall, and what an end has counted.
pub mod Placing
pub mod Leading
pub mod Growing
pub mod Moments
pub mod Ending
