use Rattle.std.proofs.Common.{◌≡◌, false, Option, Some, None, Err, option_map, sym, ap, ◌∙◌}
use Rattle.qrules.specs.declared.over.Over.{Over}
use Rattle.qrules.specs.Charge.{answer_to, first_fault}
use Rattle.qplain.specs.declared.refusal.Refusal.TheVariants.{EDQUOT}
use Rattle.qstore_accounts.specs.Ledgers.{fault_of_change}
use Rattle.qstore_accounts.proofs.kept_holder.KeptHolder.refusal.Goals as goal

-- the fault that was told
told : (fault : Option Over) (over : Over) → answer_to false fault ≡ Err over → fault ≡ Some over
told None over h = cc
told (Some x) over h = cc

pub returns-in-Err : goal.returns-in-Err
returns-in-Err c =
    let x = c.args in
    let uses = first_fault x.self.now.account x.moment c.in-Uses.blocks c.in-Uses.inodes in
    let fault = told uses c.in-Err.over (sym c.test_uses.ensures ∙ c.in-Err.is) in
    sym (ap (option_map (λ over. EDQUOT x.kind over)) (ap (fault_of_change x.self.now.account x.moment) c.in-Uses.is ∙ fault))
