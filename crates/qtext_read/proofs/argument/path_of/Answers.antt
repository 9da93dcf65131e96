use Rattle.std.proofs.Common.{◌≡◌, ℕ, Bool, true, false, not, eqb, List, length, Err, refl}
use Rattle.std.specs.List.{list_all}
use Rattle.qplain.specs.Paths.{ArePathBytes, is_path_byte}
use Rattle.qtext.specs.declared.text_fault.TextKind.TheVariants.{BadWord}
use Rattle.qtext_read.specs.Arguments.{path_of}
use Rattle.qtext_read.proofs.ArgumentsAgain.{path_again}
use Rattle.qtext_read.proofs.argument.path_of.Goals as goal

no_path : (w : List ℕ) (some each : Bool) → not (eqb (length w) 0) ≡ some → list_all is_path_byte w ≡ each → (ArePathBytes w → ⊥) → path_of w ≡ Err BadWord
unfolding path_of
no_path w true true s e never = absurd (never (record { some = s; each = e }))
no_path w true false s e never = rw (s, e) refl
no_path w false each s e never = rw s refl

untrue : false ≡ true → ⊥
untrue e = cc

pub returns-in-Some : goal.returns-in-Some
returns-in-Some c =
    let made = rw c.in-Some.is at c.in_ok-path.ensures in
    rw made.bytes (path_again _ (made.form.0 refl))

pub returns-in-None : goal.returns-in-None
returns-in-None c =
    let made = rw c.in-None.is at c.in_ok-path.ensures in
    no_path _ _ _ refl refl (λ h. untrue (made.form.1 h))
