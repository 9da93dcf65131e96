-- A text that was written whole to an empty draft.
use Rattle.std.proofs.Common.{◌≡◌, ℕ, List, [], ◌++◌, Option, Some, None, ap, ◌∙◌}
use Rattle.std.specs.Io.KnownBytes.{Appends}

pub written_whole : (old new : Option (List ℕ)) (text : List ℕ) → old ≡ Some [] → Appends old new text → new ≡ Some text
written_whole None new text empty appends = absurd (cc empty)
written_whole (Some old) None text empty appends = absurd appends
written_whole (Some old) (Some new) text empty appends =
    let none : old ≡ [] = cc empty in
    ap Some (appends ∙ ap (λ bytes. bytes ++ text) none)
