-- Journals whose entries were all spelled out by who could read them: they are read again.
use Rattle.std.proofs.Common.{◌≡◌, ℕ, ◌+◌, ◌<◌, List, [], ◌∷◌, drop, drop-cons, get_or, length, add-one}
use Rattle.std.specs.List.{AllByRecursion}
use Rattle.std.proofs.lemmas.List.Elements.{recursion_from_All}
use Rattle.qplain.specs.declared.edition.Edition.{Edition}
use Rattle.qplain.specs.declared.entry.Entry.{Entry}
use Rattle.qplain.specs.Held.{HasLawfulStat, IsHeld}
use Rattle.qplain.specs.Journals.{IsEntryOf, IsJournal, Written}
use Rattle.qtext_files.specs.Spelling.{CanBeRead}
use Rattle.qtext_files.proofs.JournalsAgain.{journal_again}

-- what an entry is known to be once it is spelled out
abbrev pub IsSpelled : Entry → Type 0
IsSpelled e = HasLawfulStat e.reply → IsHeld e

held : (edition : Edition) (workers : ℕ) (es : List Entry) → AllByRecursion (IsEntryOf edition workers) es
    → AllByRecursion IsSpelled es → AllByRecursion IsHeld es
held edition workers [] of spelled = tt
held edition workers (e ∷ es) of spelled = (spelled.0 of.0.2, held edition workers es of.1 spelled.1)

-- the entries of a journal that are spelled out are what their types can hold
pub all_held : (j : Written) → IsJournal j → AllByRecursion IsSpelled j.entries → AllByRecursion IsHeld j.entries
all_held j is spelled =
    held j.edition j.workers j.entries (recursion_from_All (IsEntryOf j.edition j.workers) j.entries is.each) spelled

-- a journal whose entries are spelled out is read again
pub can_be_read : (j : Written) → IsJournal j → AllByRecursion IsSpelled j.entries → CanBeRead j
can_be_read j is spelled = journal_again j is (all_held j is spelled)

-- one more entry is spelled out
pub one_more : (es : List Entry) (i : ℕ) (e d : Entry) → e ≡ get_or es i d → i < length es → IsSpelled e
    → (AllByRecursion IsSpelled (drop i es) → AllByRecursion IsSpelled es) → AllByRecursion IsSpelled (drop (i + 1) es)
    → AllByRecursion IsSpelled es
one_more es i e d is lt here so_far rest =
    let cut : drop i es ≡ e ∷ drop (i + 1) es = rw (is, add-one i) (drop-cons es i d lt) in
    so_far (rw cut (here, rest))
