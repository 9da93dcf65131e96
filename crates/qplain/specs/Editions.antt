-- What the editions of the rules differ in.
use Rattle.std.specs.Prelude.{ℕ}
use Rattle.qplain.specs.declared.bounds.TheConstants.{FILE_LIMIT, MAX_ENTRIES, OLD_FILE_LIMIT, OLD_MAX_ENTRIES}
use Rattle.qplain.specs.declared.edition.Edition.{Edition}
use Rattle.qplain.specs.declared.edition.Edition.TheVariants.{One, Two}

-- the largest file of an edition, in bytes
abbrev pub file_limit_of : Edition → ℕ
file_limit_of One = OLD_FILE_LIMIT
file_limit_of Two = FILE_LIMIT

-- the most entries that a journal of an edition may have
abbrev pub max_entries_of : Edition → ℕ
max_entries_of One = OLD_MAX_ENTRIES
max_entries_of Two = MAX_ENTRIES
