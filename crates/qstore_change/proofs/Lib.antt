-- What the proofs of more than one file share: empty directories, the link counts, then the tree after each change.
pub mod EmptyDirectories
pub mod Links
pub mod Making
pub mod ParentLinks
pub mod FurtherNames
pub mod Recounts
pub mod Renamings
pub mod RenamedTrees
