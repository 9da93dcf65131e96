-- What is saved of an outcome beside its text: its journal, and then an image of its store.
use Rattle.std.specs.Prelude.{◌≡◌, ℕ, List, Option, Some, None, IsSome, length}
use Rattle.qrun_replay.specs.declared.outcome.Outcome.{Outcome}
use Rattle.qtext_files.specs.Spelling.{CanBeRead, journal_spelling}
use Rattle.qtext_image.specs.Held.{IsStateTyped}
use Rattle.qtext_image.specs.Spelling.{image_text}
use Rattle.qtool_files.specs.Held.{Held, StandsUnder}
use Rattle.qtool_files.specs.declared.finishing.Refuser.{Refuser}
use Rattle.qtool_files.specs.declared.finishing.Refuser.TheVariants.{Output, Journal, Image}

-- the image of the store that is left, after the calls of its journal
abbrev pub image_left : Outcome → List ℕ
image_left o = image_text o.setup.edition (length o.journal.entries) o.store.state

-- where a file is named, this text stands under its name, and under any other what stood there; where none is, all is
-- as it was
abbrev pub IsSavedUnder : Held → Held → Option (List ℕ) → List ℕ → Type 0
IsSavedUnder old new None text = new ≡ old
IsSavedUnder old new (Some name) text = StandsUnder old new name text

-- where files are named for them, the journal was saved, and then the image
pub record IsSaved (old new : Held) (journal image : Option (List ℕ)) (o : Outcome) : Type 0 where
  pub between : Held
  pub journal_is : IsSavedUnder old between journal (journal_spelling o.journal)
  pub image_is : IsSavedUnder between new image (image_left o)

-- a journal that was saved can be read again, and the parts of a state whose image was saved are what types can hold
pub record IsReadable (journal image : Option (List ℕ)) (o : Outcome) : Type 0 where
  pub journal_is : IsSome journal → CanBeRead o.journal
  pub image_is : IsSome image → IsStateTyped o.store.state

-- where it was refused all files are as they were, but that a journal is saved before an image is refused
abbrev pub IsLeftAt : Held → Held → Option (List ℕ) → Outcome → Refuser → Type 0
IsLeftAt old new journal o Output = new ≡ old
IsLeftAt old new journal o Journal = new ≡ old
IsLeftAt old new journal o Image = IsSavedUnder old new journal (journal_spelling o.journal)
