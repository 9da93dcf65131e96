-- What rows can hold; tests of lists; rows that are taken in one after the other, and their order; a state's own setup;
-- the tests of its lines; the counts at the end, and names that lead up to the root; what all tests say of the state; the
-- text read again, and spelled as it was read; and the fault of one row more, which the state before it tells.
pub mod Typed
pub mod Tests
pub mod Prefixes
pub mod Parted
pub mod Ordered
pub mod Keys
pub mod Ranked
pub mod Granted
pub mod Passing
pub mod Links
pub mod Fits
pub mod Begun
pub mod Climbing
pub mod Balanced
pub mod Made
pub mod Founded
pub mod ImagesAgain
pub mod RowsFound
pub mod TextsFound
pub mod NextLists
pub mod NextOrder
pub mod NextHolders
pub mod NextTests
pub mod NextNames
pub mod NextBlocks
pub mod NextRows
pub mod NextSwaps
pub mod NextFiles
pub mod NextHeads
pub mod NextFaults
