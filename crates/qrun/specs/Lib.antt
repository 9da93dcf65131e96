-- In reading order: the numbers of faults, what a run begins with, what the ends of workers make of it, what who looks
-- has done, what a monitor is shown, who looks at boards, what a service is, who is to look, the workers' transcripts,
-- and who plays and what they leave.
pub mod RunFaults
pub mod Beginnings
pub mod WorkerEnds
pub mod Watching
pub mod Monitors
pub mod Observers
pub mod Serving
pub mod Looking
pub mod Told
pub mod Crews
