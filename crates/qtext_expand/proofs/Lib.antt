-- Lines of scripts by themselves, the loop over the lines of a text, and what holds of all that is written out.
pub mod PlainLines
pub mod Growing
pub mod Writing
pub mod Laws
