-- No caller but the superuser makes another user or another project, or a group that is not its own, own an inode.
use Rattle.std.proofs.Common.{◌≡◌, ℕ, Bool, true, false, cond, ◌||◌, ◌==◌, List, ◌∷◌, Option, None, Some, is_some, refl, sym, ap, subst, ◌∙◌, tests, arith}
use Rattle.std.specs.List.{list_any}
use Rattle.std.specs.Ordering.{nat_cmp}
use Rattle.std.specs.BTreeMap.{is_at}
use Rattle.qplain.specs.declared.owners.Owners.{Owners}
use Rattle.qplain.specs.Caller.{Caller, is_superuser}
use Rattle.qplain.specs.State.{Inode, NameKey, State, inode_at}
use Rattle.qplain.specs.Use.{has_name}
use Rattle.qplain.specs.Rights.{is_same_id, may_give}
use Rattle.qplain.specs.Files.{with_inode}
use Rattle.qplain.specs.Names.{created, owners_by, swept, with_name, without_name}
use Rattle.qplain_laws.specs.Laws.{FitsTogether, KeepsOwners, OwnersHold}
use Rattle.qplain_laws.proofs.Becoming.{HoldsOfResults, IsOwn, step-becomes}
use Rattle.std.proofs.lemmas.Bool.{or_left}
use Rattle.qplain_laws.proofs.Sweeping.{inode_at-swept}
use Rattle.qplain_laws.proofs.Linking.{inode_at-created, inode_at-created-there, inode_at-with_inode}
use Rattle.qplain_laws.proofs.Rights.{may_give-parts}
use Rattle.qplain_laws.proofs.Tables.{absent-fresh, same-number}

-- the group is one of the caller's
abbrev has : Caller → ℕ → Bool
has cred gid = list_any (λ group. group == gid) (cred.gid ∷ cred.more)

-- the inode is its user's and its project's still, and its group's or that of one of the caller's groups
record Keeps (cred : Caller) (inode after : Inode) : Type 0 where
  user : after.owners.uid ≡ inode.owners.uid
  group : (after.owners.gid == inode.owners.gid || has cred after.owners.gid) ≡ true
  project : after.owners.project ≡ inode.owners.project

-- an inode keeps what it is
keeps-itself : (cred : Caller) (inode after : Inode) → Some inode ≡ Some after → Keeps cred inode after
keeps-itself cred inode after same =
    let equal : inode ≡ after = cc in
    subst (Keeps cred inode) equal (record {
      user = refl;
      group = or_left (inode.owners.gid == inode.owners.gid) (has cred inode.owners.gid) (itself inode.owners.gid);
      project = refl;
    })
  where
    itself : (n : ℕ) → (n == n) ≡ true
    itself n = grind (arith, tests)

-- so where what stands has not changed
keeps-same : (S S1 : State) (cred : Caller) (q : ℕ) (inode after : Inode) → inode_at S q ≡ Some inode → inode_at S1 q ≡ Some after
    → inode_at S1 q ≡ inode_at S q → Keeps cred inode after
keeps-same S S1 cred q inode after there then same = keeps-itself cred inode after (sym there ∙ sym same ∙ then)

-- what was not there and is there now is the new inode
made-created : (S : State) (cred : Caller) (inode : Inode) (dir : ℕ) (b : Bool) (o : Option Inode) (after : Inode) → IsOwn S cred dir inode
    → o ≡ None → cond b (Some inode) o ≡ Some after → (after.owners.uid ≡ cred.uid) × (after.owners.gid ≡ cred.gid)
made-created S cred inode dir true o after own none now =
    let equal : inode ≡ after = cc in
    let owned : after.owners ≡ owners_by S cred dir = ap (λ (i : Inode). i.owners) (sym equal) ∙ own.owners in
    (ap (λ (o : Owners). o.uid) owned, ap (λ (o : Owners). o.gid) owned)
made-created S cred inode dir false o after own none now = let clash : Some after ≡ None = sym now ∙ none in cc

-- where the caller changed an inode, it may give it to the owners that it has then
keeps-changed : (S : State) (cred : Caller) (number : ℕ) (inode changed : Inode) → is_superuser cred ≡ false
    → inode_at S number ≡ Some inode → may_give cred inode changed.owners ≡ true
    → (q : ℕ) (one after : Inode) → inode_at S q ≡ Some one → inode_at (with_inode S number changed) q ≡ Some after → Keeps cred one after
keeps-changed S cred number inode changed other there may q one after at now =
    by (is_at (nat_cmp number) q) refl (sym (inode_at-with_inode S number inode changed q there) ∙ now)
  where
    by : (b : Bool) → is_at (nat_cmp number) q ≡ b → cond b (Some changed) (inode_at S q) ≡ Some after → Keeps cred one after
    by true here then =
        let old : Some inode ≡ Some one = sym there ∙ ap (inode_at S) (same-number number q here) ∙ at in
        let was : inode ≡ one = cc in
        let is : changed ≡ after = cc in
        let parts = may_give-parts cred inode changed.owners other may in
        let user : changed.owners.uid ≡ inode.owners.uid = equal changed.owners.uid inode.owners.uid parts.1 in
        let project : changed.owners.project ≡ inode.owners.project = same_id changed.owners.project inode.owners.project parts.3 in
        let keeps : Keeps cred inode changed = record { user = user; group = parts.2; project = project } in
        subst (Keeps cred one) is (subst (λ (i : Inode). Keeps cred i changed) was keeps)
      where
        equal : (m n : ℕ) → (m == n) ≡ true → m ≡ n
        equal m n same = grind (arith, tests, same)

        same_id : (o p : Option ℕ) → is_same_id o p ≡ true → o ≡ p
        same_id None None same = refl
        same_id None (Some n) same = cc
        same_id (Some m) None same = cc
        same_id (Some m) (Some n) same = ap Some (sym (equal n m same))
    by false here then = keeps-itself cred one after (sym at ∙ then)

-- what the sweep leaves stood before
pub left-there : (b : Bool) (o : Option Inode) (after : Inode) → cond b o None ≡ Some after → o ≡ Some after
left-there true o after now = now
left-there false o after now = cc

-- a change of the names, and the sweep, make no inode and change none
results_swept : (S : State) (cred : Caller) (names : List (NameKey × ℕ)) → KeepsOwners cred S (swept (record S { names = names }))
results_swept S cred names =
    let was : (q : ℕ) (after : Inode) → inode_at (swept (record S { names = names })) q ≡ Some after → inode_at S q ≡ Some after =
    λ q after now. left-there (has_name (record S { names = names }) q) (inode_at S q) after (sym (inode_at-swept S names q) ∙ now) in
    record {
      made = λ q after none now. let clash : Some after ≡ None = sym (was q after now) ∙ none in cc;
      user = λ q one after at now. (keeps-itself cred one after (sym at ∙ was q after now)).user;
      group = λ q one after at now. (keeps-itself cred one after (sym at ∙ was q after now)).group;
      project = λ q one after at now. (keeps-itself cred one after (sym at ∙ was q after now)).project;
    }

results_keep : (S : State) (cred : Caller) → FitsTogether S → is_superuser cred ≡ false → HoldsOfResults (KeepsOwners cred S) S cred
results_keep S cred fits other = record {
  created = λ inode dir name own known sound stands absent few.
      let none : inode_at S S.next ≡ None = absent-fresh S.inodes S.next fits.inodes.fresh in
      let keeps : (q : ℕ) (one after : Inode) → inode_at S q ≡ Some one → inode_at (created S inode dir name) q ≡ Some after → Keeps cred one after =
      λ q one after at now. keeps-same S (created S inode dir name) cred q one after at now
      (inode_at-created-there S inode dir name q none (ap is_some at)) in
      record {
        made = λ q after absent_too now.
            made-created S cred inode dir (is_at (nat_cmp q) S.next) (inode_at S q) after own absent_too
            (sym (inode_at-created S inode dir name q none) ∙ now);
        user = λ q one after at now. (keeps q one after at now).user;
        group = λ q one after at now. (keeps q one after at now).group;
        project = λ q one after at now. (keeps q one after at now).project;
      };
  changed = λ number inode after there follows may. record {
    made = λ q then none now.
        let clash = not-made number inode after there q then none now in absurd clash;
    user = λ q one then at now. (keeps-changed S cred number inode after other there may q one then at now).user;
    group = λ q one then at now. (keeps-changed S cred number inode after other there may q one then at now).group;
    project = λ q one then at now. (keeps-changed S cred number inode after other there may q one then at now).project;
  };
  removed = λ dir name number inode led there empty may. results_swept S cred (without_name S dir name).names;
  linked = λ number inode dir name there file stands absent few. record {
    made = λ q after none now. let clash : Some after ≡ None = sym now ∙ none in cc;
    user = λ q one after at now. (keeps-itself cred one after (sym at ∙ now)).user;
    group = λ q one after at now. (keeps-itself cred one after (sym at ∙ now)).group;
    project = λ q one after at now. (keeps-itself cred one after (sym at ∙ now)).project;
  };
  renamed = λ to dir name number inode to_dir to_name placed outside led there stands other empty may may_too few.
      results_swept S cred (with_name (without_name (without_name S dir name) to_dir to_name) to_dir to_name number).names;
  limited = λ kind id limits may. cc;
  graced = λ graces may. cc;
}
  where
    not-made : (number : ℕ) (inode after : Inode) → inode_at S number ≡ Some inode → (q : ℕ) (then : Inode) → inode_at S q ≡ None
        → inode_at (with_inode S number after) q ≡ Some then → ⊥
    not-made number inode after there q then none now =
        by (is_at (nat_cmp number) q) refl (sym (inode_at-with_inode S number inode after q there) ∙ now)
      where
        by : (b : Bool) → is_at (nat_cmp number) q ≡ b → cond b (Some after) (inode_at S q) ≡ Some then → ⊥
        by true here e = let clash : Some inode ≡ None = sym there ∙ ap (inode_at S) (same-number number q here) ∙ none in cc
        by false here e = let clash : Some then ≡ None = sym e ∙ none in cc

pub owners_hold : OwnersHold
owners_hold S cred moment call lawful other =
    step-becomes (KeepsOwners cred S) S cred (results_keep S cred lawful.parts other) (KeepsOwners cred S) moment call
    (record {
      made = λ q after none now. let clash : Some after ≡ None = sym now ∙ none in cc;
      user = λ q one after at now. (keeps-itself cred one after (sym at ∙ now)).user;
      group = λ q one after at now. (keeps-itself cred one after (sym at ∙ now)).group;
      project = λ q one after at now. (keeps-itself cred one after (sym at ∙ now)).project;
    })
    (λ new keeps granted. record { made = keeps.made; user = keeps.user; group = keeps.group; project = keeps.project })
