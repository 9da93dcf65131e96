use Rattle.std.proofs.Common.{◌≡◌, Option, Some, subst, sym, ◌∙◌}
use Rattle.qsession.specs.declared.kept.Kept.{Kept}
use Rattle.qsession.specs.Holdings.{held_in, holding_of}
use Rattle.qsession.specs.Tellings.{IsToldAs, UnlessMemory}
use Rattle.qsession_text.specs.Reports.{audit_in}
use Rattle.qfs.proofs.texts.qfs_audit.Goals as goal

pub returns-clause-differences : goal.returns-clause-differences
returns-clause-differences c =
    let kept = c.in-Some.kept.value in
    let told = c.tell_audit-told in
    let is : c.args.session.now.slot.kept ≡ Some kept = sym c.always_lawful.ensures.same ∙ c.in-Some.ensures.some in
    let of_kept : UnlessMemory (Some (holding_of kept)) told.result (IsToldAs (audit_in (Some (holding_of kept))) told.new.differences told.result) =
    subst (λ (k : Kept). UnlessMemory (Some (holding_of k)) told.result (IsToldAs (audit_in (Some (holding_of k))) told.new.differences told.result))
    c.deref.ensures told.ensures.differences in
    subst (λ (k : Option Kept). UnlessMemory (held_in k) told.result (IsToldAs (audit_in (held_in k)) told.new.differences told.result)) (sym is) of_kept
