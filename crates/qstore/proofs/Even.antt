-- A change that takes as much as it gives needs no exchange.
use Rattle.std.proofs.Common.{◌≡◌, ℕ, ◌+◌, cond, Some, None, refl, ap, ◌∙◌, arith}
use Rattle.qrules.specs.Sort.{Sort, Blocks, Inodes}
use Rattle.qrules.specs.Kinds.{is_id}
use Rattle.qblocks.specs.File.{File, blocks_of}
use Rattle.qplain.specs.Files.{with_file}
use Rattle.qplain.specs.State.{Inode, State, inode_at}
use Rattle.qplain.specs.Use.{charge_to, owner, total_of, use_of, weight}
use Rattle.qplain_laws.specs.Replaces.{Replaces}
use Rattle.qplain_laws.proofs.Replacing.{Replaces-changed}
use Rattle.qstore_accounts.proofs.Claimed.{unclaimed}
use Rattle.qstore.specs.Decided.{IsAsked, no_exchange}
use Rattle.qstore.specs.Requests.{IsConsistent}
use Rattle.qstore.specs.Stored.{Stored}
use Rattle.qstore.proofs.Deciding.{asked-for}

-- what is added on both sides goes
cancel : (a b n : ℕ) → a + n ≡ b + n → a + 0 ≡ b + 0
cancel a b n same = omega (arith, same)

-- where the inode takes what it took, of the same owners, nothing is replaced
replaces-none : (S S1 : State) (before after : Inode) → ((sort : Sort) → weight sort after ≡ weight sort before) → after.owners ≡ before.owners
    → Replaces S S1 (Some before) (Some after) → Replaces S S1 None None
replaces-none S S1 before after same owners r = record {
  size = r.size;
  most_inodes = r.most_inodes;
  graces = r.graces;
  holders = r.holders;
  totals = λ sort. cancel (total_of S1 sort) (total_of S sort) (weight sort before)
      (r.totals sort ∙ ap (λ n. total_of S sort + n) (same sort));
  uses = λ kind id sort. cancel (use_of S1 kind id sort) (use_of S kind id sort) (charge_to kind id sort before)
      (r.uses kind id sort ∙ (λ i. use_of S kind id sort + cond (is_id id (owner kind (owners i))) (same sort i) 0));
}

-- so none is asked for
pub even-asked : (s : Stored) → IsConsistent s → (S1 : State) (before after : Inode) → ((sort : Sort) → weight sort after ≡ weight sort before)
    → after.owners ≡ before.owners → Replaces s.state S1 (Some before) (Some after) → S1.next ≡ s.state.next → IsAsked s no_exchange 0 S1
even-asked s whole S1 before after same owners r next =
    asked-for s whole None None 0 S1 None None (replaces-none s.state S1 before after same owners r) (omega (arith, next))
    (unclaimed s.books) (unclaimed s.books) (omega arith)

-- as for a file that has as many blocks as before
pub rewritten-asked : (s : Stored) → IsConsistent s → (number : ℕ) (inode : Inode) (file : File) → inode_at s.state number ≡ Some inode
    → blocks_of file ≡ weight Blocks inode → IsAsked s no_exchange 0 (with_file s.state number inode file)
rewritten-asked s whole number inode file there same =
    even-asked s whole (with_file s.state number inode file) inode (record inode { file = file }) by refl
    (Replaces-changed s.state number inode (record inode { file = file }) there) refl
  where
    by : (sort : Sort) → weight sort (record inode { file = file }) ≡ weight sort inode
    by Inodes = refl
    by Blocks = same
