-- New stores with projects without limits and without projects, and the journals that are legal in them.
use Rattle.std.proofs.Common.{◌≡◌, true, false, List, [], ◌∷◌, ◌++◌, map, filter, refl, sym, ap, ◌∙◌}
use Rattle.std.specs.List.{AllByRecursion}
use Rattle.std.proofs.lemmas.List.Elements.{All-append, All-from_recursion, filter-append, recursion_from_All}
use Rattle.qrules.specs.declared.kind.Kind.{Kind}
use Rattle.qrules.specs.declared.kind.Kind.TheVariants.{User, Group, Project}
use Rattle.qplain.specs.declared.entry.Entry.{Entry}
use Rattle.qplain.specs.declared.principal.Principal.{Principal}
use Rattle.qplain.specs.Setups.{Setting}
use Rattle.qplain.specs.State.{Holder, State, declared_in, holder_of, start}
use Rattle.qplain.specs.Journal.{IsLegal, played}
use Rattle.qplain_answers.specs.WithoutProjects.{AreAlike, HasUnlimitedProjects, JournalsAreAlike, StartsAreAlike, declaring_none, is_project, names_project, unlimited, without_projects}
use Rattle.qplain_answers.proofs.Entries.{stays}
use Rattle.qplain_answers.proofs.Alike.{IsFree, projects_change_nothing}

-- ---- new stores

-- no holder of projects alone stays
none-stay : (ps : List Principal) → filter stays (map (holder_of Project) ps) ≡ []
none-stay [] = refl
none-stay (p ∷ ps) = none-stay ps

-- holders behind others, none of whom stays
behind : (us gs hs : List Holder) → filter stays hs ≡ [] → filter stays (us ++ (gs ++ hs)) ≡ filter stays us ++ (filter stays gs ++ [])
behind us gs hs none =
    filter-append stays us (gs ++ hs) ∙ ap (λ xs. filter stays us ++ xs) (filter-append stays gs hs ∙ ap (λ xs. filter stays gs ++ xs) none)

-- whoever is of another kind is no project with a limit
free-others : (kind : Kind) → is_project kind ≡ false → (ps : List Principal) → AllByRecursion IsFree (map (holder_of kind) ps)
free-others kind other [] = tt
free-others kind other (p ∷ ps) = ((λ is. let clash : true ≡ false = sym is ∙ other in absurd (cc)), free-others kind other ps)

free-projects : (ps : List Principal) → AllByRecursion (λ p. p.limits ≡ unlimited) ps → AllByRecursion IsFree (map (holder_of Project) ps)
free-projects [] free = tt
free-projects (p ∷ ps) free = ((λ is. free.0), free-projects ps free.1)

free-start : (s : Setting) → AllByRecursion (λ p. p.limits ≡ unlimited) s.projects → HasUnlimitedProjects (start s)
free-start s free =
    All-append IsFree (declared_in User s) (declared_in Group s ++ declared_in Project s)
    (All-from_recursion IsFree (declared_in User s) (free-others User refl s.users))
    (All-append IsFree (declared_in Group s) (declared_in Project s)
    (All-from_recursion IsFree (declared_in Group s) (free-others Group refl s.groups))
    (All-from_recursion IsFree (declared_in Project s) (free-projects s.projects free)))

alike-start : (s : Setting) → AreAlike (start s) (start (declaring_none s))
alike-start s =
    let us : List Holder = declared_in User s in
    let gs : List Holder = declared_in Group s in
    let same : filter stays (us ++ (gs ++ declared_in Project s)) ≡ filter stays (us ++ (gs ++ [])) =
    behind us gs (declared_in Project s) (none-stay s.projects) ∙ sym (behind us gs [] refl) in
    (λ i. record (without_projects (start s)) { holders = same i })

pub starts_are_alike : StartsAreAlike
starts_are_alike s unlimited_too = record {
  states = alike-start s;
  one = free-start s (recursion_from_All (λ p. p.limits ≡ unlimited) s.projects unlimited_too);
  other = free-start (declaring_none s) tt;
}

-- ---- journals

-- what is legal in a state is legal in one that is alike
legal-alike : (S T : State) → AreAlike S T → HasUnlimitedProjects S → HasUnlimitedProjects T → (journal : List Entry)
    → AllByRecursion (λ e. names_project e.call ≡ false) journal → IsLegal S journal → IsLegal T journal
legal-alike S T alike free free_too [] others legal = tt
legal-alike S T alike free free_too (e ∷ rest) others legal =
    let left = projects_change_nothing S T e.cred e.moment e.call alike free free_too others.0 in
    (legal.0 ∙ left.replies, legal-alike (played S e).0 (played T e).0 left.states left.one left.other rest others.1 legal.1)

pub journals_are_alike : JournalsAreAlike
journals_are_alike s journal unlimited_too others =
    let starts = starts_are_alike s unlimited_too in
    let all = recursion_from_All (λ e. names_project e.call ≡ false) journal others in (
      legal-alike (start s) (start (declaring_none s)) starts.states starts.one starts.other journal all,
      legal-alike (start (declaring_none s)) (start s) (sym starts.states) starts.other starts.one journal all,
    )
