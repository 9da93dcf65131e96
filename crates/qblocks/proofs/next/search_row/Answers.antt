use Rattle.std.proofs.Common.{◌≡◌, ◌≤◌, ℕ, false, Option, None, Some, is_some, slice_get, is_gt}
use Rattle.std.proofs.Common.{subst, sym, ap, arith, ⊎_elim}
use Rattle.std.proofs.lemmas.Bool.{cases_Bool, cases_lt}
use Rattle.std.proofs.lemmas.Map.Keys.{le_from_not_gt}
use Rattle.std.specs.BTreeMap as tree
use Rattle.std.specs.declared.cmp.Ordering.TheVariants.{Less, Equal}
use Rattle.std.specs.Cmp.{nat_cmp_is}
use Rattle.std.specs.Option.{IfSome}
use Rattle.std.specs.Ordering.{nat_cmp}
use Rattle.qblocks.specs.Rows.{has_row}
use Rattle.qblocks.proofs.next.search_row.Goals as goal

weaker : {X : Type 0} (P Q : X → Type 0) (o : Option X) → ((x : X) → P x → Q x) → IfSome o P → IfSome o Q
weaker P Q None f p = p
weaker P Q (Some x) f p = f x p

-- a number from another on does not stand before it
not_gt_from_le : (a b : ℕ) → a ≤ b → is_gt (nat_cmp a b) ≡ false
not_gt_from_le a b l =
    ⊎_elim
    (λ less. ap is_gt (sym (nat_cmp_is a b Less less)))
    (λ same. ap is_gt (sym (nat_cmp_is a b Equal (omega arith))))
    (cases_lt a b)

pub returns-in-Some : goal.returns-in-Some
returns-in-Some c =
    let range = c.range.ensures.in_range tt in
    let steps = c.in-Some.ensures.steps in
    let first = subst (λ es. IfSome (slice_get es 0) (λ e.
    (is_gt (nat_cmp c.args.from e.0) ≡ false) × (tree.get nat_cmp c.args.rows.now e.0 ≡ Some e.1))) steps
    (weaker _ _ (slice_get c.range.result 0) (λ e h. (h.0.0, h.1)) range.1) in
    record {
      next = (
        le_from_not_gt c.args.from c.in-Some.r.now first.0,
        ap is_some first.1,
        λ q l h. ⊎_elim
            (λ there.
            let least = subst (λ es. IfSome (slice_get es 0) (λ e. is_gt (nat_cmp e.0 q) ≡ false)) steps
            (range.2 q (not_gt_from_le c.args.from q l, tt) there) in
            absurd (omega (arith, h, le_from_not_gt c.in-Some.r.now q least)))
            (λ absent. absent)
            (cases_Bool (has_row c.args.rows.now q)),
      );
      row = first.1;
    }

pub returns-in-None-clause-next : goal.returns-in-None-clause-next
returns-in-None-clause-next c =
    let range = c.range.ensures.in_range tt in
    λ q l. ap is_some (range.5 c.in-None.ensures.steps.0 q (not_gt_from_le c.args.from q l, tt))
