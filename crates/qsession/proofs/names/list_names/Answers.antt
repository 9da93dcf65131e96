use Rattle.std.proofs.Common.{◌≡◌, ◌≤◌, ◌+◌, ◌++◌, ◌∷◌, [], ap, arith, inr, length, subst, sym, take, ◌∙◌}
use Rattle.std.proofs.lemmas.List.{take_all, take_more_set}
use Rattle.std.proofs.Math.Nat.{min-eq_right}
use Rattle.qsession.proofs.Put.{bytes_in-map, len-told, names-put, names-told}
use Rattle.qsession.proofs.Listed.{AreListed, all-listed, listed-step, none-listed, room-listed}
use Rattle.qsession.proofs.names.list_names.Goals as goal

pub loop-i-init : goal.loop-i-init
loop-i-init c = none-listed c.args.names.now _ _

pub put_at-at-requires : goal.put_at-at-requires
put_at-at-requires c = record {
  room =
      subst (λ b. c.loop-i.at + length b ≤ length c.loop-i.text) (sym c.as_bytes.ensures.value)
      (room-listed c.args.names.now c.loop-i.i c.loop-i.at c.loop-i.list c.loop-i.text _ c.loop-i-test.true c.loop-i.invariant
      (omega (arith, c.in-Some.ensures.some, c.if-bytes-text.false, c.loop-i.auto.text)));
}

pub loop-i-preserved : goal.loop-i-preserved
loop-i-preserved c =
    listed-step c.args.names.now c.loop-i.i c.loop-i.at c.put_at-at.result c.loop-i.list _ c.loop-i.text c.put_at-at.new.text _ c.loop-i-test.true
    c.loop-i.invariant (c.put_at-at.ensures.next ∙ ap (λ b. c.loop-i.at + length b) c.as_bytes.ensures.value)
    (c.put_at-at.ensures.text ∙ ap (λ b. take c.loop-i.at c.loop-i.text ++ b) c.as_bytes.ensures.value)
    (take_more_set c.loop-i.list c.loop-i.i c.row_at.result (omega (arith, c.loop-i-test.true, c.loop-i.auto.list, c.if-names-list.false))
    ∙ ap (λ r. take c.loop-i.i c.loop-i.list ++ r ∷ []) c.row_at.ensures)

pub returns-in_default : goal.returns-in_default
returns-in_default c =
    let names = c.args.names.now in
    let bytes = bytes_in-map names in
    names-told names c.args.list.now c.args.text.now _ c.code.result (inr (omega (arith, c.in_default.ensures.none)))
    (sym (min-eq_right (omega (arith, bytes, c.in_default.ensures.none)))) c.code.ensures

pub returns-then-names-list : goal.returns-then-names-list
returns-then-names-list c =
    let names = c.args.names.now in
    let many = c.then-names-list.either in
    let is = c.in-Some.ensures.some in
    names-told names c.args.list.now c.args.text.now c.in-Some.bytes c.code-then-names-list.result (grind (arith, many, is))
    (len-told names c.in-Some.bytes is (omega (arith, is))) c.code-then-names-list.ensures

pub returns : goal.returns
returns c =
    let names = c.args.names.now in
    let end : c.loop-i.i ≡ length names = omega (arith, c.loop-i.auto.i-end, c.loop-i-test.false) in
    names-put names c.loop-i.list c.loop-i.text c.in-Some.bytes (omega (arith, c.if-names-list.false, c.loop-i.auto.list)) c.in-Some.ensures.some
    (omega (arith, c.if-bytes-text.false, c.loop-i.auto.text)) (omega (arith, c.if-bytes-text.false))
    (all-listed names (length names) c.loop-i.at c.loop-i.list c.loop-i.text (take_all (length names) names (omega arith))
    (subst (λ k. AreListed names k c.loop-i.at c.loop-i.list c.loop-i.text) end c.loop-i.invariant))
