use Rattle.std.proofs.Common.{◌≡◌, ◌+◌, ◌++◌, true, false, cond, drop, map, Some, ap, sym, ◌∙◌, arith}
use Rattle.qstore_open.specs.Ending.{is_told_right, records_line}
use Rattle.qstore_open.specs.Told.{part_of}
use Rattle.qstore_open.proofs.Behind.{records-behind, records-done}
use Rattle.qstore_open.proofs.ending.right_records.Goals as goal

pub returns-then-not-is_told_right-clause-lines : goal.returns-then-not-is_told_right-clause-lines
returns-then-not-is_told_right-clause-lines c = λ S kind rest are.
    let ts = c.args.records.now in
    let i = c.loop-record.record-index in
    let d = c.record-item.result in
    let told : is_told_right S (part_of kind d) ≡ false = sym (c.is_told_right.ensures S kind are) ∙ c.if-not-is_told_right.true in
    c.loop-record.invariant.lines S kind rest are
    ∙ records-behind S kind rest c.loop-record.line ts i d c.loop-record-test.true
    ∙ ap (λ t. cond (is_told_right S (part_of kind t)) (records_line S (c.loop-record.line + 1) (map (part_of kind) (drop (i + 1) ts) ++ rest))
    (Some c.loop-record.line))
    (sym c.record-item.is)
    ∙ ap (λ b. cond b (records_line S (c.loop-record.line + 1) (map (part_of kind) (drop (i + 1) ts) ++ rest)) (Some c.loop-record.line)) told

pub loop-record-preserved : goal.loop-record-preserved
loop-record-preserved c =
    let behind = c.loop-record.invariant.behind in
    record {
      behind = omega (arith, behind);
      lines = λ S kind rest are.
          let ts = c.args.records.now in
          let i = c.loop-record.record-index in
          let d = c.record-item.result in
          let told : is_told_right S (part_of kind d) ≡ true = sym (c.is_told_right.ensures S kind are) ∙ c.if-not-is_told_right.false in
          c.loop-record.invariant.lines S kind rest are
          ∙ records-behind S kind rest c.loop-record.line ts i d c.loop-record-test.true
          ∙ ap (λ t. cond (is_told_right S (part_of kind t)) (records_line S (c.loop-record.line + 1) (map (part_of kind) (drop (i + 1) ts) ++ rest))
          (Some c.loop-record.line))
          (sym c.record-item.is)
          ∙ ap (λ b. cond b (records_line S (c.loop-record.line + 1) (map (part_of kind) (drop (i + 1) ts) ++ rest)) (Some c.loop-record.line)) told;
    }

pub returns-clause-behind : goal.returns-clause-behind
returns-clause-behind c = let behind = c.loop-record.invariant.behind in omega (arith, behind)

pub returns-clause-lines : goal.returns-clause-lines
returns-clause-lines c = λ S kind rest are.
    c.loop-record.invariant.lines S kind rest are
    ∙ records-done S kind rest c.loop-record.line c.args.records.now c.loop-record.record-index c.loop-record-test.false
