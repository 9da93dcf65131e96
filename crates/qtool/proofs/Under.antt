-- What was read under names.
use Rattle.std.proofs.Common.{◌≡◌, ◌<◌, ◌+◌, ◌&&◌, ℕ, Bool, true, false, List, [], ◌∷◌, ◌++◌, Option, Ok, All, map, take, drop, get_or, slice_index_or, length, arith, refl, sym, ap, subst}
use Rattle.std.specs.List.{AllZip}
use Rattle.std.proofs.lemmas.List.{map_more}
use Rattle.std.proofs.lemmas.List.Elements.{All-push}
use Rattle.qplain.specs.Setups.{Setting}
use Rattle.qplain.specs.declared.line.Line.{Line}
use Rattle.qtext_files.specs.Scripts.{script_of}
use Rattle.qtool_files.specs.Held.{Held, IsUnder}
use Rattle.qtool.specs.Printed.{IsSoundUnder}
use Rattle.qtool.specs.Under.{AreScriptsUnder}

zip_more : {A B : Type 0} (R : A → B → Type 0) (xs : List A) (ys : List B) (x : A) (y : B) → AllZip R xs ys → R x y
    → AllZip R (xs ++ x ∷ []) (ys ++ y ∷ [])
zip_more R [] [] x y all one = (one, tt)
zip_more R [] (b ∷ ys) x y all one = absurd all
zip_more R (a ∷ xs) [] x y all one = absurd all
zip_more R (a ∷ xs) (b ∷ ys) x y all one = (all.0, zip_more R xs ys x y all.1 one)

-- one text more under its name
pub texts_more : {A : Type 0} (files : Held) (view : A → List ℕ) (names : List A) (i : ℕ) (name : A) (texts : List (List ℕ)) (text : List ℕ)
    → i < length names → name ≡ get_or names i name → AllZip (IsUnder files) (map view (take i names)) texts → IsUnder files (view name) text
    → AllZip (IsUnder files) (map view (take (i + 1) names)) (texts ++ text ∷ [])
texts_more files view names i name texts text small is all one =
    rw (map_more view names i name small)
    (zip_more (IsUnder files) (map view (take i names)) texts (view (get_or names i name)) text all
    (subst (λ n. IsUnder files (view n) text) is one))

-- what the texts under names say stands under these
pub scripts_under : (files : Held) (names texts : List (List ℕ)) (scripts : List (List Line)) → AllZip (IsUnder files) names texts
    → map Ok scripts ≡ map script_of texts → AreScriptsUnder files names scripts
scripts_under files [] [] [] all same = tt
scripts_under files [] [] (s ∷ ss) all same = absurd (omega (arith, ap length same))
scripts_under files [] (t ∷ ts) scripts all same = absurd all
scripts_under files (n ∷ ns) [] scripts all same = absurd all
scripts_under files (n ∷ ns) (t ∷ ts) [] all same = absurd (omega (arith, ap length same))
scripts_under files (n ∷ ns) (t ∷ ts) (s ∷ ss) all same =
    let says : Ok s ≡ script_of t = ap (λ rs. slice_index_or rs 0 (Ok s)) same in
    (record { text = t; under = all.0; says = sym says }, scripts_under files ns ts ss all.1 (ap (drop 1) same))

-- where both are so, each is
pub both : (a b : Bool) → (a && b) ≡ true → (a ≡ true) × (b ≡ true)
both true true is = (refl, refl)
both true false is = absurd (cc is)
both false b is = absurd (cc is)

-- one more text without a fault under its name
pub sound_more : {A : Type 0} (files : Held) (setting : Option Setting) (view : A → List ℕ) (names : List A) (i : ℕ) (name : A)
    → i < length names → name ≡ get_or names i name → All (IsSoundUnder files setting) (map view (take i names))
    → IsSoundUnder files setting (view name) → All (IsSoundUnder files setting) (map view (take (i + 1) names))
sound_more files setting view names i name small is all one =
    subst (All (IsSoundUnder files setting)) (sym (map_more view names i name small))
    (All-push (IsSoundUnder files setting) (map view (take i names)) (view (get_or names i name)) all (subst (λ n. IsSoundUnder files setting (view n)) is one))
