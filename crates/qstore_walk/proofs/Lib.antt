-- What the proofs of more than one file share: of the parts of a path, of walks, then what the faults of a link and of a
-- rename say.
pub mod Lengths
pub mod Paths
pub mod Walks
pub mod FurtherNames
pub mod Renamed
