-- The greatest moment of lines.
use Rattle.std.proofs.Common.{◌≡◌, ◌+◌, ◌<◌, ◌∙◌, ℕ, ap, get_or, length, List, [], ◌∷◌, map, sym, take}
use Rattle.std.specs.Prelude.{fold, max}
use Rattle.std.proofs.lemmas.List.{map_more}
use Rattle.std.proofs.lemmas.List.Sums.{fold-append}
use Rattle.qplain.specs.declared.line.Line.{Line}

-- and of one more of them
pub greatest_more : (least i : ℕ) (ls : List Line) (l : Line) → l ≡ get_or ls i l → i < length ls
    → fold max least (map (λ l. l.moment) (take (i + 1) ls)) ≡ max (fold max least (map (λ l. l.moment) (take i ls))) l.moment
greatest_more least i ls l is few =
    ap (fold max least) (map_more (λ l. l.moment) ls i l few)
    ∙ fold-append max least (map (λ l. l.moment) (take i ls)) ((get_or ls i l).moment ∷ [])
    ∙ ap (λ (one : Line). max (fold max least (map (λ l. l.moment) (take i ls))) one.moment) (sym is)
