-- Lines that are left, what stands among other things in order, a worker's own entries, one more answer, where it stands, lines that are not
-- answered yet, and a worker who goes on.
pub mod LinesLeft
pub mod Subsequences
pub mod Owning
pub mod Working
pub mod Stands
pub mod Clients
pub mod Going
