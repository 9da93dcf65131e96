use Rattle.std.proofs.Common.{◌≡◌, ◌<◌, get_or, length, sym, ap, ◌∙◌, arith, ⊎_elim}
use Rattle.std.proofs.lemmas.Bool.{cases_lt}
use Rattle.std.proofs.lemmas.List.{get_or_past}
use Rattle.std.proofs.lemmas.Str.{IsCharBoundary-after_ascii}
use Rattle.qstore_walk.proofs.path.names_of.Goals as goal

pub range_from-requires : goal.range_from-requires
range_from-requires c =
    let path = c.args.path.now in
    let first : get_or path 0 0 ≡ 47 = ap (λ bytes. get_or bytes 0 0) (sym c.as_bytes.ensures.value) ∙ c.if-first-eq47.true in
    let some : 0 < length path = ⊎_elim (λ some. some) (λ none. absurd (omega (arith, first, get_or_past path 0 0 none))) (cases_lt 0 (length path)) in
    λ _. IsCharBoundary-after_ascii path 0 c.utf8.path some (omega (arith, first))
