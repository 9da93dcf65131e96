use Rattle.std.proofs.Common.{◌≡◌, ◌+◌, ◌-◌, List, Option, refl, sym, ap, subst, ◌∙◌, arith}
use Rattle.qrules.specs.declared.kind.Kind.{Kind}
use Rattle.qrules.specs.declared.kind.Kind.TheVariants.{User, Group, Project}
use Rattle.qrules.specs.Sort.{Inodes, Blocks}
use Rattle.qrules.proofs.Ranks.{each_kind}
use Rattle.qplain.specs.State.{State}
use Rattle.qstore_accounts.specs.declared.bill.Postings.{Postings}
use Rattle.qstore_accounts.specs.declared.claim.OwnerClaim.{OwnerClaim}
use Rattle.qstore_accounts.specs.declared.kept_holder.KeptHolder.{KeptHolder}
use Rattle.std.specs.Option.{option_and_then}
use Rattle.qrules.specs.Kinds.{by_kind}
use Rattle.qstore_accounts.specs.Books.{Books, ledger_in}
use Rattle.qstore_accounts.specs.Claims.{share_in, weight_in}
use Rattle.qstore_accounts.specs.Kept.{books_of}
use Rattle.qstore_accounts.specs.Replacements.{IsReplacement}
use Rattle.qstore_accounts.specs.Ledgers.{ArePosted}
use Rattle.qstore_accounts.proofs.Booked.{lost-total, replaced, total-then}
use Rattle.qstore_accounts.proofs.accounts.Accounts.write_bill.Goals as goal

pub write_postings-requires : goal.write_postings-requires
write_postings-requires c =
    let x = c.args in
    let r = c.requires in
    let inside = subst (λ (b : Books). IsReplacement b x.from x.to r.0 r.1 r.2 r.3) (sym c.self.view_is) r.4 in (
      User,
      r.0,
      r.1,
      r.2,
      r.3,
      rw (c.share_of-user.ensures, c.share_of-next_user.ensures)
          (replaced (books_of c.self.inside) x.from x.to r.0 r.1 r.2 r.3 c.self.invariant.0 inside User),
    )

pub write_postings-requires-2 : goal.write_postings-requires-2
write_postings-requires-2 c =
    let x = c.args in
    let r = c.requires in
    let inside = subst (λ (b : Books). IsReplacement b x.from x.to r.0 r.1 r.2 r.3) (sym c.self.view_is) r.4 in (
      Group,
      r.0,
      r.1,
      r.2,
      r.3,
      rw (c.share_of-group.ensures, c.share_of-next_group.ensures)
          (replaced (books_of c.self.inside) x.from x.to r.0 r.1 r.2 r.3 c.self.invariant.0 inside Group),
    )

pub write_postings-requires-3 : goal.write_postings-requires-3
write_postings-requires-3 c =
    let x = c.args in
    let r = c.requires in
    let inside = subst (λ (b : Books). IsReplacement b x.from x.to r.0 r.1 r.2 r.3) (sym c.self.view_is) r.4 in (
      Project,
      r.0,
      r.1,
      r.2,
      r.3,
      rw (c.share_of-project.ensures, c.share_of-next_project.ensures)
          (replaced (books_of c.self.inside) x.from x.to r.0 r.1 r.2 r.3 c.self.invariant.0 inside Project),
    )

pub overflow_sub-bill : goal.overflow_sub-bill
overflow_sub-bill c =
    let x = c.args in
    let r = c.requires in
    let inside = subst (λ (b : Books). IsReplacement b x.from x.to r.0 r.1 r.2 r.3) (sym c.self.view_is) r.4 in
    let le = lost-total (books_of c.self.inside) x.from x.to r.0 r.1 r.2 r.3 inside Blocks in
    let gained : c.weight_of-gained.result.blocks ≡ (weight_in x.to).blocks = ap (λ w. w.blocks) c.weight_of-gained.ensures in
    let lost : c.weight_of-lost.result.blocks ≡ (weight_in x.from).blocks = ap (λ w. w.blocks) c.weight_of-lost.ensures in
    omega (arith, le, inside.books.blocks, gained, lost)

pub returns-clause-in_range : goal.returns-clause-in_range
returns-clause-in_range c = rw (← c.self.view_is) c.self.invariant.0

-- postings for the shares are postings for what equals them
posted-shares : (os : List KeptHolder) (kind : Kind) (S1 : State) (p : Postings) {f f1 t t1 : Option OwnerClaim}
    → f ≡ f1 → t ≡ t1 → ArePosted os kind S1 f t p → ArePosted os kind S1 f1 t1 p
posted-shares os kind S1 p {f} {f1} {t} {t1} from to done = subst (λ s. ArePosted os kind S1 s t1 p) from
    (subst (λ s. ArePosted os kind S1 f s p) to done)

-- the records of all kinds and the totals are those of the new state
pub returns-clause-bill : goal.returns-clause-bill
returns-clause-bill c = rw (← c.self.view_is) (λ S S1 f t r.
    let x = c.args in
    let b = books_of c.self.inside in
    let of_kind = replaced b x.from x.to S S1 f t c.self.invariant.0 r in
    let gained = c.weight_of-gained.ensures in
    let lost = c.weight_of-lost.ensures in
    record {
      posted = each_kind (λ kind. ArePosted (ledger_in kind b) kind S1 (option_and_then (share_in kind) x.from)
          (option_and_then (share_in kind) x.to)
          (by_kind c.write_postings.new.postings c.write_postings-2.new.postings c.write_postings-3.new.postings kind))
          (posted-shares b.users User S1 c.write_postings.new.postings c.share_of-user.ensures c.share_of-next_user.ensures
          (c.write_postings.ensures User S S1 f t (rw (c.share_of-user.ensures, c.share_of-next_user.ensures) (of_kind User))))
          (posted-shares b.groups Group S1 c.write_postings-2.new.postings c.share_of-group.ensures c.share_of-next_group.ensures
          (c.write_postings-2.ensures Group S S1 f t (rw (c.share_of-group.ensures, c.share_of-next_group.ensures) (of_kind Group))))
          (posted-shares b.projects Project S1 c.write_postings-3.new.postings c.share_of-project.ensures c.share_of-next_project.ensures
          (c.write_postings-3.ensures Project S S1 f t (rw (c.share_of-project.ensures, c.share_of-next_project.ensures) (of_kind Project))));
      blocks = (λ i. r.books.blocks i + (gained i).blocks - (lost i).blocks) ∙ total-then b x.from x.to S S1 f t r Blocks;
      inodes = (λ i. r.books.inodes i + (gained i).inodes - (lost i).inodes) ∙ total-then b x.from x.to S S1 f t r Inodes;
      time = refl;
    })
