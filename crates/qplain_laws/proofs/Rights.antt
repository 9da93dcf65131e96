-- No caller but the superuser changes what is not its own.
use Rattle.std.proofs.Common.{◌≡◌, ℕ, Bool, true, false, not, cond, ◌||◌, ◌&&◌, ◌==◌, List, Option, None, Some, is_some, refl, sym, ap, ◌∙◌}
use Rattle.std.specs.Ordering.{nat_cmp}
use Rattle.std.specs.BTreeMap.{is_at}
use Rattle.std.specs.Map.{lookup}
use Rattle.std.specs.Cmp.{eq_by_cmp_equiv}
use Rattle.qplain.specs.declared.owners.Owners.{Owners}
use Rattle.qplain.specs.Caller.{Caller, is_superuser}
use Rattle.qplain.specs.State.{Inode, State, inode_at, is_directory, name_key_cmp, named}
use Rattle.qplain.specs.Use.{has_name, is_empty}
use Rattle.qplain.specs.Rights.{is_member, is_owner, is_same_id, may_give, may_remove, owns}
use Rattle.qplain.specs.Files.{with_inode}
use Rattle.qplain.specs.Renames.{passes, renamed}
use Rattle.qplain.specs.Names.{created, swept, with_name, without_name}
use Rattle.qplain_laws.specs.Laws.{FitsTogether, LeavesToOthers, RightsHold, is_of_others}
use Rattle.qplain_laws.proofs.Becoming.{HoldsOfResults, step-becomes}
use Rattle.qplain_laws.proofs.Trying.{true-from_not}
use Rattle.qplain_laws.proofs.Results.{fits-created}
use Rattle.qplain_laws.proofs.Finding.{more-kept}
use Rattle.qplain_laws.proofs.Naming.{has_name-with}
use Rattle.qplain_laws.proofs.Renaming.{named-U, named-V, remove-none, sorted-U}
use Rattle.qplain_laws.proofs.Sweeping.{has_name-there, inode_at-swept, key-dir, named-without}
use Rattle.qplain_laws.proofs.Linking.{inode_at-created-there, inode_at-with_inode, named-created}
use Rattle.qplain_laws.proofs.Tables.{absent-fresh, name_key_total, same-number}

-- ---- inodes

-- an inode that has a name stands as long as it has one
while-named : (S : State) (number : ℕ) (inode : Inode) → inode_at S number ≡ Some inode → has_name S number ≡ true
    → inode_at S number ≡ cond (has_name S number) (Some inode) None
while-named S number inode there has = there ∙ sym (ap (λ b. cond b (Some inode) None) has)

-- where nothing changes, all is left to others
kept : (S : State) (cred : Caller) → FitsTogether S → LeavesToOthers cred S S
kept S cred fits = record {
  inodes = λ number inode there others. while-named S number inode there (has_name-there S fits number (ap is_some there));
  names = λ dir number name leads directory others. leads;
}

-- who may give an inode away, and is not the superuser, owns it, keeps its user and its project, and keeps its group or has
-- the new one
pub may_give-parts : (cred : Caller) (inode : Inode) (owners : Owners) → is_superuser cred ≡ false → may_give cred inode owners ≡ true
    → (is_owner cred inode ≡ true) × ((owners.uid == inode.owners.uid) ≡ true)
    × ((owners.gid == inode.owners.gid || is_member cred owners.gid) ≡ true) × (is_same_id owners.project inode.owners.project ≡ true)
may_give-parts cred inode owners other may =
    by (is_superuser cred) (is_owner cred inode) (owners.uid == inode.owners.uid) (owners.gid == inode.owners.gid || is_member cred owners.gid)
    (is_same_id owners.project inode.owners.project) other may
  where
    by : (a b c d e : Bool) → a ≡ false → (a || b && c && d && e) ≡ true → (b ≡ true) × (c ≡ true) × (d ≡ true) × (e ≡ true)
    by true b c d e f h = cc
    by false true true true true f h = (refl, refl, refl, refl)
    by false true true true false f h = cc
    by false true true false e f h = cc
    by false true false d e f h = cc
    by false false c d e f h = cc

-- an inode of others is not the one that the caller changed
inode-kept : (S : State) (cred : Caller) (number : ℕ) (inode after : Inode) → inode_at S number ≡ Some inode
    → is_of_others cred (Some inode) ≡ false → (q : ℕ) (there : Inode) → inode_at S q ≡ Some there
    → is_of_others cred (Some there) ≡ true → inode_at (with_inode S number after) q ≡ Some there
inode-kept S cred number inode after at own q there stands others =
    inode_at-with_inode S number inode after q at ∙ elsewhere (is_at (nat_cmp number) q) refl
  where
    elsewhere : (b : Bool) → is_at (nat_cmp number) q ≡ b → cond b (Some after) (inode_at S q) ≡ Some there
    elsewhere true here =
        let equal : Some there ≡ Some inode = sym stands ∙ sym (ap (inode_at S) (same-number number q here)) ∙ at in
        let clash : true ≡ false = sym others ∙ ap (is_of_others cred) equal ∙ own in cc
    elsewhere false here = stands

-- ---- names

-- two names that are at each other lead to the same
named-same : (S : State) (dir parent : ℕ) (name other : List ℕ) → is_at (name_key_cmp (parent, other)) (dir, name) ≡ true
    → named S parent other ≡ named S dir name
named-same S dir parent name other same =
    λ i. lookup (λ e. (eq_by_cmp_equiv name_key_total).congr (parent, other) (dir, name) e same i) S.names

-- a name that was there leads where it led, whatever is new
named-kept : (S : State) (inode : Inode) (dir : ℕ) (name : List ℕ) (parent number : ℕ) (other : List ℕ) → named S dir name ≡ None
    → named S parent other ≡ Some number → named (created S inode dir name) parent other ≡ Some number
named-kept S inode dir name parent number other absent leads =
    named-created S inode dir name parent other absent ∙ elsewhere (is_at (name_key_cmp (parent, other)) (dir, name)) refl
  where
    elsewhere : (b : Bool) → is_at (name_key_cmp (parent, other)) (dir, name) ≡ b → cond b (Some S.next) (named S parent other) ≡ Some number
    elsewhere true here =
        let gone : Some number ≡ None = sym leads ∙ named-same S dir parent name other here ∙ absent in cc
    elsewhere false here = leads

-- what is the caller's is not of others
own-not_others : (cred : Caller) (o : Option Inode) → owns cred o ≡ true → is_of_others cred o ≡ true → true ≡ false
own-not_others cred None own others = cc
own-not_others cred (Some inode) own others = sym others ∙ ap not own

-- who may take a name away, and is not the superuser, owns what it leads to or its directory
removes-own : (S : State) (cred : Caller) (dir number : ℕ) → is_superuser cred ≡ false → may_remove S cred dir number ≡ true
    → is_of_others cred (inode_at S dir) ≡ true → is_of_others cred (inode_at S number) ≡ true → true ≡ false
removes-own S cred dir number other may of_dir of_inode =
    by (is_superuser cred) (owns cred (inode_at S number)) (owns cred (inode_at S dir)) refl refl other may
  where
    by : (a b c : Bool) → owns cred (inode_at S number) ≡ b → owns cred (inode_at S dir) ≡ c → a ≡ false → (a || b || c) ≡ true → true ≡ false
    by true b c i d e h = cc
    by false true c i d e h = own-not_others cred (inode_at S number) i of_inode
    by false false true i d e h = own-not_others cred (inode_at S dir) d of_dir
    by false false false i d e h = cc

-- a name of others in a directory of others is not the one that the caller took away
name-left : (S : State) (cred : Caller) (dir : ℕ) (name : List ℕ) (number : ℕ) → FitsTogether S → is_superuser cred ≡ false
    → named S dir name ≡ Some number → may_remove S cred dir number ≡ true → (parent q : ℕ) (other : List ℕ) → named S parent other ≡ Some q
    → is_of_others cred (inode_at S parent) ≡ true → is_of_others cred (inode_at S q) ≡ true → named (swept (without_name S dir name)) parent other ≡ Some q
name-left S cred dir name number fits not_root led may parent q other leads of_dir of_inode =
    named-without S dir name number led parent other fits.names.in_order
    ∙ elsewhere (is_at (name_key_cmp (dir, name)) (parent, other)) refl
  where
    elsewhere : (b : Bool) → is_at (name_key_cmp (dir, name)) (parent, other) ≡ b → cond b None (named S parent other) ≡ Some q
    elsewhere true here =
        let same : dir ≡ parent = key-dir dir name (parent, other) here in
        let to : Some number ≡ Some q = sym led ∙ named-same S parent dir other name here ∙ leads in
        let equal : number ≡ q = cc in
        let clash : true ≡ false = removes-own S cred dir number not_root may
        (ap (λ n. is_of_others cred (inode_at S n)) same ∙ of_dir) (ap (λ n. is_of_others cred (inode_at S n)) equal ∙ of_inode) in
        cc
    elsewhere false here = leads

-- nor is it one that the caller replaced
name-stays : (S : State) (cred : Caller) (dir : ℕ) (name : List ℕ) (number : ℕ) (inode : Inode) (to_dir : ℕ) (to_name : List ℕ)
    → FitsTogether S → named S dir name ≡ Some number → inode_at S number ≡ Some inode → is_directory S to_dir ≡ true
    → passes (λ n. n == number) (named S to_dir to_name) ≡ false → passes (λ n. not (is_empty S n)) (named S to_dir to_name) ≡ false
    → is_superuser cred ≡ false → may_remove S cred dir number ≡ true → passes (λ n. not (may_remove S cred to_dir n)) (named S to_dir to_name) ≡ false
    → (parent q : ℕ) (other : List ℕ) → named S parent other ≡ Some q → is_of_others cred (inode_at S parent) ≡ true
    → is_of_others cred (inode_at S q) ≡ true → named (renamed S dir name to_dir to_name number) parent other ≡ Some q
name-stays S cred dir name number inode to_dir to_name fits led there stands elsewhere empty not_root may may_too parent q other leads of_dir of_inode =
    more-kept V.names (to_dir, to_name) number (named-V S dir name number inode to_dir to_name fits led there stands elsewhere empty) (parent, other) q
    (named-without-target (named S to_dir to_name) refl may_too)
  where
    U : State
    U = without_name S dir name

    V : State
    V = without_name U to_dir to_name

    in-U : named U parent other ≡ Some q
    in-U = name-left S cred dir name number fits not_root led may parent q other leads of_dir of_inode

    target : named U to_dir to_name ≡ named S to_dir to_name
    target = named-U S dir name number inode to_dir to_name fits led there stands elsewhere empty

    named-without-target : (o : Option ℕ) → named S to_dir to_name ≡ o → passes (λ n. not (may_remove S cred to_dir n)) o ≡ false
        → named V parent other ≡ Some q
    named-without-target None none h =
        ap (λ names. named (record U { names = names }) parent other)
        (remove-none (is_at (name_key_cmp (to_dir, to_name))) U.names (target ∙ none)) ∙ in-U
    named-without-target (Some t) found h =
        named-without U to_dir to_name t (target ∙ found) parent other
        (sorted-U S dir name number inode to_dir to_name fits led there stands elsewhere empty)
        ∙ apart (is_at (name_key_cmp (to_dir, to_name)) (parent, other)) refl
      where
        apart : (b : Bool) → is_at (name_key_cmp (to_dir, to_name)) (parent, other) ≡ b → cond b None (named U parent other) ≡ Some q
        apart true here =
            let same : to_dir ≡ parent = key-dir to_dir to_name (parent, other) here in
            let to : Some t ≡ Some q = sym found ∙ named-same S parent to_dir other to_name here ∙ leads in
            let equal : t ≡ q = cc in
            let clash : true ≡ false = removes-own S cred to_dir t not_root (true-from_not (may_remove S cred to_dir t) h)
            (ap (λ n. is_of_others cred (inode_at S n)) same ∙ of_dir) (ap (λ n. is_of_others cred (inode_at S n)) equal ∙ of_inode) in
            cc
        apart false here = in-U

-- ---- the law

results_leave : (S : State) (cred : Caller) → FitsTogether S → is_superuser cred ≡ false → HoldsOfResults (LeavesToOthers cred S) S cred
results_leave S cred fits other = record {
  created = λ inode dir name own known sound stands absent few. record {
    inodes = λ q there at others.
        let still : inode_at (created S inode dir name) q ≡ Some there =
        inode_at-created-there S inode dir name q (absent-fresh S.inodes S.next fits.inodes.fresh) (ap is_some at) ∙ at in
        while-named (created S inode dir name) q there still
        (has_name-there (created S inode dir name)
        (fits-created S cred inode dir name fits own known sound stands absent few) q (ap is_some still));
    names = λ parent number name_too leads directory others. named-kept S inode dir name parent number name_too absent leads;
  };
  changed = λ number inode after there follows may. record {
    inodes = λ q one at others.
        while-named (with_inode S number after) q one
        (inode-kept S cred number inode after there (ap not (may_give-parts cred inode after.owners other may).0) q one at others)
        (has_name-there S fits q (ap is_some at));
    names = λ dir n name leads directory others. leads;
  };
  removed = λ dir name number inode led there empty may. record {
    inodes = λ q one at others.
        inode_at-swept S (without_name S dir name).names q ∙ ap (λ o. cond (has_name (without_name S dir name) q) o None) at;
    names = λ parent q name_too leads directory others. name-left S cred dir name number fits other led may parent q name_too leads directory others;
  };
  linked = λ number inode dir name there file stands absent few. record {
    inodes = λ q one at others.
        while-named (with_name S dir name number) q one at
        (has_name-with S number inode dir name fits there file stands absent q (has_name-there S fits q (ap is_some at)));
    names = λ parent q name_too leads directory others. more-kept S.names (dir, name) number absent (parent, name_too) q leads;
  };
  renamed = λ to dir name number inode to_dir to_name placed outside led there stands elsewhere empty may may_too few. record {
    inodes = λ q one at others.
        let W : State = with_name (without_name (without_name S dir name) to_dir to_name) to_dir to_name number in
        inode_at-swept S W.names q ∙ ap (λ o. cond (has_name W q) o None) at;
    names = λ parent q name_too leads directory others.
        name-stays S cred dir name number inode to_dir to_name fits led there stands elsewhere empty other may may_too parent q name_too leads directory others;
  };
  limited = λ kind id limits may. cc;
  graced = λ graces may. cc;
}

pub rights_hold : RightsHold
rights_hold S cred moment call lawful other =
    step-becomes (LeavesToOthers cred S) S cred (results_leave S cred lawful.parts other) (LeavesToOthers cred S) moment call
    (kept S cred lawful.parts) (λ new leaves granted. record { inodes = leaves.inodes; names = leaves.names })
