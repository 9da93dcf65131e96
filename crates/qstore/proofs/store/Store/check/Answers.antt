use Rattle.std.proofs.Common.{◌≡◌, false, Some, sym, subst}
use Rattle.qplain.specs.declared.refusal.Refusal.TheVariants.{EINVAL}
use Rattle.qplain.specs.Known.{is_known}
use Rattle.qplain.specs.Calls.{refusal_of_arguments}
use Rattle.qstore.specs.Kept.{state_of}
use Rattle.qstore.specs.Stored.{Stored}
use Rattle.qstore.proofs.Arguments.{refusal-unknown}
use Rattle.qstore.proofs.store.Store.check.Goals as goal

pub returns-in_default-clause-refused : goal.returns-in_default-clause-refused
returns-in_default-clause-refused c call written =
    let x = c.args in
    let S = state_of c.self.inside in
    let unknown : is_known S x.cred.now ≡ false = sym (c.in_default.ensures.known S c.self.invariant.books) in
    subst (λ (v : Stored). refusal_of_arguments v.state x.cred.now x.moment call ≡ Some EINVAL) c.self.view_is
    (refusal-unknown S x.cred.now x.moment call unknown)
