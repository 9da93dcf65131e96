use Rattle.std.proofs.Common.{◌≡◌, List, length, ap, subst, sym, ◌∙◌, arith, tests}
use mathlib.Core.List.{IsPrefix}
use Rattle.qplain.specs.declared.entry.Entry.{Entry}
use Rattle.qshare_history.proofs.Prefixes.{prefix_length, prefix_shorter}
use Rattle.qshare_history.proofs.prefix.Prefix.begins_with.Goals as goal

pub returns : goal.returns
returns c =
    let both : List Entry = c.learn.new.self.log in
    let mine : IsPrefix c.args.self.now.entries both =
    subst (λ (xs : List Entry). IsPrefix xs both) (ap (λ s. s.log) c.again-both.ensures ∙ ap (λ r. r.entries) c.self.view_is) c.learn.ensures.2 in
    let others : IsPrefix c.args.other.now.entries both =
    subst (λ (xs : List Entry). IsPrefix xs both) (ap (λ r. r.entries) c.other.view_is) c.learn.ensures.3 in
    let len : c.self.inside.len ≡ length c.args.self.now.entries = c.self.invariant ∙ ap (λ r. length r.entries) c.self.view_is in
    let other_len : c.other.inside.len ≡ length c.args.other.now.entries =
    c.other.invariant ∙ ap (λ r. length r.entries) c.other.view_is in (
      (λ less. prefix_shorter _ _ both others mine (grind (arith, tests, less, len, other_len))),
      (λ begins. let short = prefix_length _ _ begins in grind (arith, tests, short, len, other_len)),
    )
