use Rattle.std.proofs.Common.{◌≡◌, ◌↔◌, ◌+◌, ℕ, List, length, slice_range, Option, Some, None, Result, Ok, Err, IfOk, IfSome, IsSome, refl, sym, ap, ◌∙◌}
use Rattle.qplain.specs.Paths.{ArePathBytes}
use Rattle.qtext_read.specs.Arguments.{path_of}
use Rattle.qtext_read.proofs.ArgumentsAgain.{path_again}
use Rattle.qtext_read.proofs.paths.Paths.path_at.Goals as goal

-- a path of the part that is the word
path_there : {E : Type 0} (word part : List ℕ) (read : Result (Option (List ℕ)) E) → part ≡ word
    → IfOk read (λ path. IsSome path ↔ ArePathBytes part) → IfOk read (λ path. IfSome path (λ p. p ≡ part))
    → IfOk read (λ path. IfSome path (λ p. path_of word ≡ Ok p))
path_there word part (Ok (Some p)) same form bytes = rw (← same, bytes) (path_again part (form.0 refl))
path_there word part (Ok None) same form bytes = tt
path_there word part (Err e) same form bytes = tt

pub returns-then-are_same_bytes : goal.returns-then-are_same_bytes
returns-then-are_same_bytes c =
    let from = c.saturating_sub-from.result in
    let to = from + length c.args.word.now in
    let same : slice_range c.in-Some.page.bytes from to ≡ c.args.word.now =
    ap (λ bytes. slice_range bytes from to) (sym c.as_slice-bytes.ensures) ∙ c.are_same_bytes.ensures.0 c.if-are_same_bytes.true in
    path_there c.args.word.now _ c.within.result same c.within.ensures.form c.within.ensures.bytes
