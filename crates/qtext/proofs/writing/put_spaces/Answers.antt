use Rattle.std.proofs.Common.{◌-◌, ◌+◌, ◌≡◌, ◌<◌, ◌≤◌, ℕ, arith, ◌++◌, take, ap, sym, ◌∙◌}
use Rattle.std.proofs.lemmas.List.{replicate-append-replicate, take-replicate}
use Rattle.qtext.specs.Pieces.{spaces}
use Rattle.qtext.proofs.Fronts.{ends_refused, partly_last, partly_next}
use Rattle.qtext.proofs.writing.put_spaces.Goals as goal

sixteen_more : (count : ℕ) → 16 < count → spaces count ≡ spaces 16 ++ spaces (count - 16)
sixteen_more count lt =
    let e : count ≡ 16 + (count - 16) = omega arith in
    ap spaces e ∙ sym (replicate-append-replicate 16 (count - 16) 32)

last_of : (count : ℕ) → count ≤ 16 → take count (spaces 16) ≡ spaces count
last_of count le = take-replicate count 16 32 le

pub returns-in_err-put : goal.returns-in_err-put
returns-in_err-put g c = ends_refused _ _ _ _ _ _ _ _ c.from_residual.ensures.0 c.loop-rest.invariant
    c.in_err-put.ensures (sixteen_more c.loop-rest.rest c.loop-rest-test.true)

pub loop-rest-preserved : goal.loop-rest-preserved
loop-rest-preserved g c = partly_next _ _ _ _ _ _ _ c.loop-rest.invariant c.in_ok-put.ensures
    (sixteen_more c.loop-rest.rest c.loop-rest-test.true)

pub returns : goal.returns
returns g c = partly_last _ _ _ _ _ _ c.loop-rest.invariant
    (rw (sym (c.split_at.ensures.front ∙ last_of c.loop-rest.rest c.loop-rest-test.false)) c.put-2.ensures)
