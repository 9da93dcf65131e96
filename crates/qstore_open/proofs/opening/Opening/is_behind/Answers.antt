use Rattle.std.proofs.Common.{ap, sym, ◌∙◌}
use Rattle.std.specs.Map.{keys_of}
use Rattle.std.specs.Ordering.{nat_cmp}
use Rattle.std.proofs.lemmas.Cmp.{nat_cmp_total}
use Rattle.qtext_image.specs.NextFaults.{is_behind}
use Rattle.qstore_open.proofs.ByKind.{lt-less}
use Rattle.qstore_open.proofs.Lasts.{is_behind_last, kept-behind}
use Rattle.qstore_open.proofs.opening.Opening.is_behind.Goals as goal

pub returns-in-Some : goal.returns-in-Some
returns-in-Some c =
    sym (lt-less c.in-Some.last c.args.number) ∙ ap (λ o. is_behind_last nat_cmp o c.args.number) (sym c.in-Some.is)
    ∙ sym (kept-behind nat_cmp nat_cmp_total (keys_of c.self.inside.tree.inodes) c.self.inside.last c.args.number c.self.invariant.numbers)
    ∙ ap (λ t. is_behind nat_cmp (keys_of t.state.inodes) c.args.number) c.self.view_is

pub returns-in-None : goal.returns-in-None
returns-in-None c =
    ap (λ o. is_behind_last nat_cmp o c.args.number) (sym c.in-None.is)
    ∙ sym (kept-behind nat_cmp nat_cmp_total (keys_of c.self.inside.tree.inodes) c.self.inside.last c.args.number c.self.invariant.numbers)
    ∙ ap (λ t. is_behind nat_cmp (keys_of t.state.inodes) c.args.number) c.self.view_is
