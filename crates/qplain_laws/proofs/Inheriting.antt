-- What is made in a directory has the directory's project.
use Rattle.std.proofs.Common.{◌≡◌, ℕ, Bool, true, false, cond, List, Option, None, Some, refl, sym, ap, ◌∙◌}
use Rattle.std.specs.Ordering.{nat_cmp}
use Rattle.std.specs.BTreeMap.{is_at}
use Rattle.std.specs.Cmp.{eq_by_cmp_equiv}
use Rattle.qplain.specs.declared.owners.Owners.{Owners}
use Rattle.qplain.specs.Caller.{Caller}
use Rattle.qplain.specs.State.{Inode, NameKey, State, inode_at, is_dir, is_directory, named}
use Rattle.qplain.specs.Use.{has_name}
use Rattle.qplain.specs.Files.{with_inode}
use Rattle.qplain.specs.Names.{created, project_of, swept, with_name, without_name}
use Rattle.qplain_laws.specs.Laws.{FitsTogether}
use Rattle.qplain_laws.specs.ProjectLaws.{HasProjectOfItsPlace, InheritsProject, ProjectsAreInherited}
use Rattle.qplain_laws.proofs.Becoming.{HoldsOfResults, IsOwn, step-becomes}
use Rattle.qplain_laws.proofs.Linking.{inode_at-created, inode_at-with_inode, named-created}
use Rattle.qplain_laws.proofs.Sweeping.{inode_at-swept}
use Rattle.qplain_laws.proofs.Tables.{absent-fresh, name_key_total, same-number}

-- where every inode was there before, none is new
none-new : (old new : State) → ((number : ℕ) (after : Inode) → inode_at old number ≡ None → inode_at new number ≡ Some after → ⊥)
    → InheritsProject old new
none-new old new none number after absent there = absurd (none number after absent there)

clash : (o : Option Inode) (after : Inode) → o ≡ None → o ≡ Some after → ⊥
clash None after absent there = cc
clash (Some inode) after absent there = cc

-- what the sweep leaves stood before
swept-none : (S : State) (names : List (NameKey × ℕ)) → InheritsProject S (swept (record S { names = names }))
swept-none S names = none-new S (swept (record S { names = names })) (λ q after absent there.
    by (has_name (record S { names = names }) q) after (inode_at S q) absent (sym (inode_at-swept S names q) ∙ there))
  where
    by : (b : Bool) (after : Inode) (o : Option Inode) → o ≡ None → cond b o None ≡ Some after → ⊥
    by true after o absent there = clash o after absent there
    by false after o absent there = cc

-- the new inode is the one that was made
made : (S : State) (cred : Caller) (inode : Inode) (dir : ℕ) (name : List ℕ) → FitsTogether S → IsOwn S cred dir inode
    → is_directory S dir ≡ true → named S dir name ≡ None → InheritsProject S (created S inode dir name)
made S cred inode dir name fits own stands free number after absent there =
    by (is_at (nat_cmp number) S.next) refl (sym (inode_at-created S inode dir name number (absent-fresh S.inodes S.next fits.inodes.fresh)) ∙ there)
  where
    leads : named (created S inode dir name) dir name ≡ Some S.next
    leads = named-created S inode dir name dir name free
        ∙ ap (λ b. cond b (Some S.next) (named S dir name)) ((eq_by_cmp_equiv name_key_total).refl (dir, name))

    by : (b : Bool) → is_at (nat_cmp number) S.next ≡ b → cond b (Some inode) (inode_at S number) ≡ Some after
        → HasProjectOfItsPlace S (created S inode dir name) number after.owners.project
    by true here is =
        let same : inode ≡ after = cc in
        let project : after.owners.project ≡ project_of (inode_at S dir) =
        ap (λ (i : Inode). i.owners.project) (sym same) ∙ ap (λ (o : Owners). o.project) own.owners in
        in_parent (inode_at S dir) refl stands project
      where
        in_parent : (o : Option Inode) → inode_at S dir ≡ o → is_dir o ≡ true → after.owners.project ≡ project_of o
            → HasProjectOfItsPlace S (created S inode dir name) number after.owners.project
        in_parent None found is_dir project = cc
        in_parent (Some parent) found is_dir project =
            (dir, parent, name, found, is_dir, leads ∙ ap Some (sym (same-number number S.next here)), project)
    by false here is = absurd (clash (inode_at S number) after absent is)

results_inherit : (S : State) (cred : Caller) → FitsTogether S → HoldsOfResults (InheritsProject S) S cred
results_inherit S cred fits = record {
  created = λ inode dir name own known sound stands absent few. made S cred inode dir name fits own stands absent;
  changed = λ number inode after there follows may. none-new S (with_inode S number after) (not-made number inode after there);
  removed = λ dir name number inode led there empty may. swept-none S (without_name S dir name).names;
  linked = λ number inode dir name there file stands absent few.
      none-new S (with_name S dir name number) (λ q after none now. clash (inode_at S q) after none now);
  renamed = λ to dir name number inode to_dir to_name placed outside led there stands other empty may may_too few.
      swept-none S (with_name (without_name (without_name S dir name) to_dir to_name) to_dir to_name number).names;
  limited = λ kind id limits may q after none now. absurd (clash (inode_at S q) after none now);
  graced = λ graces may q after none now. absurd (clash (inode_at S q) after none now);
}
  where
    not-made : (number : ℕ) (inode after : Inode) → inode_at S number ≡ Some inode → (q : ℕ) (then : Inode) → inode_at S q ≡ None
        → inode_at (with_inode S number after) q ≡ Some then → ⊥
    not-made number inode after there q then none now =
        by (is_at (nat_cmp number) q) refl (sym (inode_at-with_inode S number inode after q there) ∙ now)
      where
        by : (b : Bool) → is_at (nat_cmp number) q ≡ b → cond b (Some after) (inode_at S q) ≡ Some then → ⊥
        by true here e = clash (inode_at S q) inode none (ap (inode_at S) (sym (same-number number q here)) ∙ there)
        by false here e = clash (inode_at S q) then none e

pub projects_are_inherited : ProjectsAreInherited
projects_are_inherited S cred moment call lawful =
    step-becomes (InheritsProject S) S cred (results_inherit S cred lawful.parts) (InheritsProject S) moment call
    (λ q after none now. absurd (clash (inode_at S q) after none now))
    (λ new inherits granted. inherits)
