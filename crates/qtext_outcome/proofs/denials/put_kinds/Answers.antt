use Rattle.std.proofs.Common.{ℕ, List, refl}
use Rattle.std.specs.Borrow.{Bor}
use Rattle.std.proofs.lemmas.List.Folds.{flat_map-map}
use Rattle.qtext.proofs.Fronts.{rows_end, rows_go_on, rows_refused}
use Rattle.qtext_outcome.specs.Denials.{denial_line, denied}
use Rattle.qtext_outcome.proofs.denials.put_kinds.Goals as goal

pub loop-number-preserved : goal.loop-number-preserved
loop-number-preserved g c = rows_go_on _ _ _ _ _ _ _ _ refl c.loop-number.invariant
    (rw c.denied.ensures at c.in_ok-put_denial.ensures) c.loop-number-test.true

pub returns-in_err-put_denial : goal.returns-in_err-put_denial
returns-in_err-put_denial g c =
    rw (flat_map-map (λ (kind : ℕ × List ℕ). denial_line (denied kind.0 c.args.transcripts.now) kind.1)
    (λ (kind : ℕ × Bor (List ℕ)). (kind.0, kind.1.now)) c.args.kinds.now)
    (rows_refused _ _ _ _ _ _ _ _ _ refl c.from_residual.ensures.0 c.loop-number.invariant
    (rw c.denied.ensures at c.in_err-put_denial.ensures) c.loop-number-test.true)

pub returns : goal.returns
returns g c =
    rw (flat_map-map (λ (kind : ℕ × List ℕ). denial_line (denied kind.0 c.args.transcripts.now) kind.1)
    (λ (kind : ℕ × Bor (List ℕ)). (kind.0, kind.1.now)) c.args.kinds.now)
    (rows_end _ _ _ _ _ c.loop-number.invariant c.loop-number-test.false)
