-- When journals are full, transcripts put together, what stands in a journal, receipts counted, seats by their places,
-- the watcher's share, what who looks was shown, what faults tell, ends of workers, workers that are ready, and what
-- they leave.
pub mod NeverFull
pub mod Told
pub mod Placing
pub mod Counting
pub mod Seating
pub mod Watched
pub mod Observing
pub mod Naming
pub mod WorkerEnds
pub mod Attending
pub mod Ended
