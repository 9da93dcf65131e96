use Rattle.std.proofs.Common.{◌≡◌, ◌<◌, false, eqb, length, sym, ◌∙◌, arith}
use Rattle.std.proofs.lemmas.Bool.{eqb-true}
use Rattle.std.proofs.lemmas.Bool.Decides.{nat_tests}
use Rattle.std.proofs.lemmas.Result.{err_from_is_err_and}
use Rattle.qtext.specs.declared.text_fault.TextKind.TheVariants.{BadCred}
use Rattle.qtext.specs.Words.{id_of}
use Rattle.qtext.proofs.Loops.{goes_on, ends_at, is_done}
use Rattle.qtext.proofs.Splitting.{left_parts, no_left}
use Rattle.qtext_read.proofs.FewGroups.{fails, few, too_many}
use Rattle.qtext_read.proofs.caller.groups_of.Goals as goal

pub returns-in_err-group-clause-fault : goal.returns-in_err-group-clause-fault
returns-in_err-group-clause-fault c =
    let fault = err_from_is_err_and c.from_residual.result c.from_residual.ensures.1 in
    let rest = left_parts (λ t. t.now) 44 _ _ _ c.first_part.result.1 c.in-Some.is c.first_part.ensures.parts in
    rw (fault.1, fault.2) (fails _ _ (ends_at (id_of BadCred) c.loop-left.groups.items _ _ _ _ _ c.in_err-group.ensures rest
    c.loop-left.invariant.reads))

pub returns-then-is_full : goal.returns-then-is_full
returns-then-is_full c =
    let rest = left_parts (λ t. t.now) 44 _ _ _ c.first_part.result.1 c.in-Some.is c.first_part.ensures.parts in
    let full : length c.loop-left.groups.items ≡ 16 = eqb-true _ _ (sym c.is_full.ensures.value ∙ c.if-is_full.true) in
    record {
      groups = tt;
      fault = too_many _ _ _ _ c.loop-left.groups.items c.in_ok-group.group full c.in_ok-group.ensures rest
          c.loop-left.invariant.reads;
    }

pub loop-left-preserved : goal.loop-left-preserved
loop-left-preserved c =
    let rest = left_parts (λ t. t.now) 44 _ _ _ c.first_part.result.1 c.in-Some.is c.first_part.ensures.parts in
    let not_full : eqb (length c.loop-left.groups.items) 16 ≡ false = sym c.is_full.ensures.value ∙ c.if-is_full.false in
    let room : length c.loop-left.groups.items < 16 = grind (arith, nat_tests, c.loop-left.invariant.few) in
    record {
      few = omega (arith, c.push.ensures.len);
      reads = rw c.push.ensures.items
          (goes_on (id_of BadCred) c.loop-left.groups.items _ _ _ _ _ c.in_ok-group.ensures rest c.loop-left.invariant.reads);
    }

pub returns-clause-groups : goal.returns-clause-groups
returns-clause-groups c =
    few _ _ c.loop-left.invariant.few
    (is_done (id_of BadCred) c.loop-left.groups.items _ _ (no_left (λ t. t.now) 44 _ c.in_default.is) c.loop-left.invariant.reads)
