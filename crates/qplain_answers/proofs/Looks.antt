-- What is looked at in a state is the same without its projects.
use Rattle.std.proofs.Common.{◌≡◌, ℕ, ◌+◌, ◌-◌, ◌==◌, Bool, true, false, ◌&&◌, ◌||◌, nat_lt, cond, List, length, take, fold, count_by, Option, Some, None, Result, Ok, Err, refl, ap, ◌∙◌}
use Rattle.std.specs.Option.{option_map}
use Rattle.std.specs.List.{list_any, range_with_len}
use Rattle.std.specs.Ordering.{nat_cmp}
use Rattle.std.specs.BTreeMap.{is_at}
use Rattle.std.proofs.lemmas.Map.Made.{lookup-map_values}
use Rattle.qrules.specs.declared.kind.Kind.{Kind}
use Rattle.qrules.specs.declared.kind.Kind.TheVariants.{User, Group, Project}
use Rattle.qrules.specs.Sort.{Sort, Inodes, Blocks}
use Rattle.qplain.specs.declared.bounds.TheConstants.{MAX_LINKS, ROOT}
use Rattle.qplain.specs.declared.refusal.Refusal.{Refusal}
use Rattle.qplain.specs.declared.refusal.Refusal.TheVariants.{ENOTDIR}
use Rattle.qplain.specs.Caller.{Caller, is_superuser}
use Rattle.qplain.specs.State.{Inode, State, inode_at, is_dir, is_directory, named}
use Rattle.qplain.specs.Use.{charge_to, has_too_many_links, links_of, total_of, use_of, weight}
use Rattle.qplain.specs.Walk.{as_directory, follow, led_to, parent, walk}
use Rattle.qplain.specs.Names.{project_of}
use Rattle.qplain.specs.Renames.{is_reached, meets}
use Rattle.qplain.specs.Rights.{may_remove, owns}
use Rattle.qplain_answers.specs.WithoutProjects.{is_project, of_no_project, without_projects}
use Rattle.qplain_answers.proofs.Entries.{any-each, sum-each}

-- ---- of an inode

is_dir-same : (o : Option Inode) → is_dir (option_map of_no_project o) ≡ is_dir o
is_dir-same None = refl
is_dir-same (Some inode) = refl

owns-same : (cred : Caller) (o : Option Inode) → owns cred (option_map of_no_project o) ≡ owns cred o
owns-same cred None = refl
owns-same cred (Some inode) = refl

project_of-none : (o : Option Inode) → project_of (option_map of_no_project o) ≡ None
project_of-none None = refl
project_of-none (Some inode) = refl

weight-same : (sort : Sort) (inode : Inode) → weight sort (of_no_project inode) ≡ weight sort inode
weight-same Inodes inode = refl
weight-same Blocks inode = refl

charge-same : (kind : Kind) (id : ℕ) (sort : Sort) → is_project kind ≡ false → (inode : Inode)
    → charge_to kind id sort (of_no_project inode) ≡ charge_to kind id sort inode
charge-same User id sort other inode = ap (λ w. cond (inode.owners.uid == id) w 0) (weight-same sort inode)
charge-same Group id sort other inode = ap (λ w. cond (inode.owners.gid == id) w 0) (weight-same sort inode)
charge-same Project id sort other inode = absurd (cc)

-- ---- of a state

module _ (S : State) where
  abbrev T : State
  T = without_projects S

  pub inode-same : (number : ℕ) → inode_at T number ≡ option_map of_no_project (inode_at S number)
  inode-same number = lookup-map_values of_no_project (is_at (nat_cmp number)) S.inodes

  pub directory-same : (number : ℕ) → is_directory T number ≡ is_directory S number
  directory-same number = ap is_dir (inode-same number) ∙ is_dir-same (inode_at S number)

  follow-same : (r : Result ℕ Refusal) (name : List ℕ) → follow T r name ≡ follow S r name
  follow-same (Err e) name = refl
  follow-same (Ok dir) name = λ i. cond (directory-same dir i) (led_to (named S dir name)) (Err ENOTDIR)

  pub walk-same : (names : List (List ℕ)) → walk T names ≡ walk S names
  walk-same names = λ i. fold (λ r name. follow-same r name i) (Ok ROOT) names

  as_directory-same : (r : Result ℕ Refusal) → as_directory T r ≡ as_directory S r
  as_directory-same (Err e) = refl
  as_directory-same (Ok dir) = λ i. cond (directory-same dir i) (Ok dir) (Err ENOTDIR)

  pub parent-same : (names : List (List ℕ)) → parent T names ≡ parent S names
  parent-same names =
      let front : List (List ℕ) = take (length names - 1) names in
      ap (as_directory T) (walk-same front) ∙ as_directory-same (walk S front)

  pub links-same : (number : ℕ) (dir : Bool) → links_of T number dir ≡ links_of S number dir
  links-same number false = refl
  links-same number true = λ i. 2 + count_by (λ e. e.0.0 == number && directory-same e.1 i) S.names

  pub too_many-same : has_too_many_links T ≡ has_too_many_links S
  too_many-same =
      any-each of_no_project (λ e. nat_lt MAX_LINKS (links_of S e.0 e.1.dir)) (λ e. nat_lt MAX_LINKS (links_of T e.0 e.1.dir))
      (λ e. ap (nat_lt MAX_LINKS) (links-same e.0 e.1.dir)) S.inodes

  pub use-same : (kind : Kind) (id : ℕ) (sort : Sort) → is_project kind ≡ false → use_of T kind id sort ≡ use_of S kind id sort
  use-same kind id sort other = sum-each of_no_project (charge_to kind id sort) (charge-same kind id sort other) S.inodes

  pub total-same : (sort : Sort) → total_of T sort ≡ total_of S sort
  total-same sort = sum-each of_no_project (weight sort) (weight-same sort) S.inodes

  pub may_remove-same : (cred : Caller) (dir number : ℕ) → may_remove T cred dir number ≡ may_remove S cred dir number
  may_remove-same cred dir number =
      (λ i. is_superuser cred || owns cred (inode-same number i) || owns cred (inode-same dir i))
      ∙ (λ i. is_superuser cred || owns-same cred (inode_at S number) i || owns-same cred (inode_at S dir) i)

  pub meets-same : (names : List (List ℕ)) (number : ℕ) → meets T names number ≡ meets S names number
  meets-same names number = λ i. list_any (λ n. is_reached number (walk-same (take n names) i)) (range_with_len 0 (length names))

  -- what is made in it has no project
  pub made-in-none : (dir : ℕ) → project_of (inode_at T dir) ≡ None
  made-in-none dir = ap project_of (inode-same dir) ∙ project_of-none (inode_at S dir)
