-- Which principals are declared in a new store of a setup: those of the setup.
use Rattle.std.proofs.Common.{◌≡◌, ℕ, Bool, true, false, ◌||◌, ◌==◌, List, [], ◌∷◌, ◌++◌, map, refl, ap, ◌∙◌}
use Rattle.std.specs.List.{list_any}
use Rattle.std.proofs.lemmas.List.Folds.{list_any-append}
use Rattle.qrules.specs.declared.kind.Kind.{Kind}
use Rattle.qrules.specs.declared.kind.Kind.TheVariants.{User, Group, Project}
use Rattle.qplain.specs.Known.{is_declared, is_holder}
use Rattle.qplain.specs.Setups.{Setting, principals_in}
use Rattle.qplain.specs.State.{Holder, declared_in, holder_of, start}
use Rattle.qplain.specs.declared.principal.Principal.{Principal}

-- one of these principals has the id
abbrev pub has_id : ℕ → List Principal → Bool
has_id id ps = list_any (λ p. id == p.id) ps

users : (id : ℕ) (ps : List Principal) → list_any (is_holder User id) (map (holder_of User) ps) ≡ has_id id ps
users id [] = refl
users id (p ∷ ps) = ap (λ b. (id == p.id) || b) (users id ps)

groups : (id : ℕ) (ps : List Principal) → list_any (is_holder Group id) (map (holder_of Group) ps) ≡ has_id id ps
groups id [] = refl
groups id (p ∷ ps) = ap (λ b. (id == p.id) || b) (groups id ps)

projects : (id : ℕ) (ps : List Principal) → list_any (is_holder Project id) (map (holder_of Project) ps) ≡ has_id id ps
projects id [] = refl
projects id (p ∷ ps) = ap (λ b. (id == p.id) || b) (projects id ps)

-- holders of another kind are not asked
module _ (id : ℕ) where
  no_user_of_groups : (ps : List Principal) → list_any (is_holder User id) (map (holder_of Group) ps) ≡ false
  no_user_of_groups [] = refl
  no_user_of_groups (p ∷ ps) = no_user_of_groups ps

  no_user_of_projects : (ps : List Principal) → list_any (is_holder User id) (map (holder_of Project) ps) ≡ false
  no_user_of_projects [] = refl
  no_user_of_projects (p ∷ ps) = no_user_of_projects ps

  no_group_of_users : (ps : List Principal) → list_any (is_holder Group id) (map (holder_of User) ps) ≡ false
  no_group_of_users [] = refl
  no_group_of_users (p ∷ ps) = no_group_of_users ps

  no_group_of_projects : (ps : List Principal) → list_any (is_holder Group id) (map (holder_of Project) ps) ≡ false
  no_group_of_projects [] = refl
  no_group_of_projects (p ∷ ps) = no_group_of_projects ps

  no_project_of_users : (ps : List Principal) → list_any (is_holder Project id) (map (holder_of User) ps) ≡ false
  no_project_of_users [] = refl
  no_project_of_users (p ∷ ps) = no_project_of_users ps

  no_project_of_groups : (ps : List Principal) → list_any (is_holder Project id) (map (holder_of Group) ps) ≡ false
  no_project_of_groups [] = refl
  no_project_of_groups (p ∷ ps) = no_project_of_groups ps

-- a test of all holders is one of each kind
by_kinds : (test : Holder → Bool) (users groups projects : List Holder) (u g p : Bool) → list_any test users ≡ u
    → list_any test groups ≡ g → list_any test projects ≡ p → list_any test (users ++ (groups ++ projects)) ≡ (u || (g || p))
by_kinds test users groups projects u g p a b c =
    list_any-append test users (groups ++ projects) ∙ rw (a, list_any-append test groups projects, b, c) refl

alone : (b : Bool) → (b || (false || false)) ≡ b
alone true = refl
alone false = refl

second : (b : Bool) → (false || (b || false)) ≡ b
second true = refl
second false = refl

pub declared : (s : Setting) (kind : Kind) (id : ℕ) → is_declared (start s) kind id ≡ has_id id (principals_in kind s)
declared s User id =
    by_kinds (is_holder User id) (declared_in User s) (declared_in Group s) (declared_in Project s) _ _ _
    (users id s.users) (no_user_of_groups id s.groups) (no_user_of_projects id s.projects) ∙ alone (has_id id s.users)
declared s Group id =
    by_kinds (is_holder Group id) (declared_in User s) (declared_in Group s) (declared_in Project s) _ _ _
    (no_group_of_users id s.users) (groups id s.groups) (no_group_of_projects id s.projects) ∙ second (has_id id s.groups)
declared s Project id =
    by_kinds (is_holder Project id) (declared_in User s) (declared_in Group s) (declared_in Project s) _ _ _
    (no_project_of_users id s.users) (no_project_of_groups id s.groups) (projects id s.projects)
