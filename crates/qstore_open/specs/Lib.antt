-- In reading order: what the records tell of; numbers among others; what is told of a row that is not taken in; what an
-- opening tells and keeps; what is found from the root on; what all rows together show not to be so, and what is
-- counted for that; what was read of lines so far.
pub mod Told
pub mod Named
pub mod Faults
pub mod Kept
pub mod Reaching
pub mod Ending
pub mod Counting
pub mod ReadTo
