-- What is known of rows that are read when they end.
use Rattle.std.proofs.Common.{◌≡◌, ◌⊎◌, ℕ, ◌^◌, ◌<◌, ◌≤◌, true, not, ◌&&◌, List, [], ◌∷◌, ◌++◌, All, length, None, inl, inr, refl, sym, ap, subst, append_assoc, ⊎_elim, arith}
use Rattle.std.specs.List.{list_all}
use Rattle.std.proofs.lemmas.Bool.{and_parts}
use Rattle.std.proofs.lemmas.List.Elements.{All-nil}
use Rattle.qplain.specs.declared.setup.TheConstants.{MAX_BLOCKS, MAX_INODES}
use Rattle.qplain.specs.State.{Inode, State}
use Rattle.qplain_image.specs.Rows.{Row, blank, made_of}
use Rattle.qplain.specs.Use.{has_too_many_links}
use Rattle.qplain_laws.specs.Laws.{leads}
use Rattle.qtext_image.specs.Faults.{has_few_names, row_fault}
use Rattle.qtext_image.proofs.Made.{made-limit, made-well}
use Rattle.qtext_image.proofs.Passing.{passed}
use Rattle.qstore_open.specs.declared.opening.Opening.TheInside.{Inside}
use Rattle.qstore_open.specs.Counting.{IsOpened}
use Rattle.qstore_open.specs.Kept.{IsKept, state_in, told_in}
use Rattle.qstore_open.specs.ReadTo.{DoPass, IsToldBy}
use Rattle.qstore_open.specs.Told.{Told}
use Rattle.qstore_open.proofs.Opened.{bounds-fit, few-blocks}

append-none : (xs : List Row) → xs ++ [] ≡ xs
append-none [] = refl
append-none (x ∷ xs) = ap (λ l. x ∷ l) (append-none xs)

-- there are no rows, or their last is not at fault
last-fine : (limit : ℕ) (before rows : List Row) → DoPass limit before rows → (rows ≡ []) ⊎ (row_fault limit (before ++ rows) ≡ None)
last-fine limit before [] pass = inl refl
last-fine limit before (r ∷ rows) pass =
    ⊎_elim
    (λ none. inr (subst (λ xs. row_fault limit (before ++ r ∷ xs) ≡ None) (sym none) pass.0))
    (λ fine. inr (subst (λ xs. row_fault limit xs ≡ None) (append_assoc before (r ∷ []) rows) fine))
    (last-fine limit (before ++ r ∷ []) rows pass.1)

-- what the end is decided with
pub record IsEnded (S : State) : Type 0 where
  pub size : S.size ≤ MAX_BLOCKS
  pub most : S.most_inodes ≤ MAX_INODES
  pub blocks : All (λ e. length e.1.file.allocated < 2 ^ 32) S.inodes
  pub few : list_all (has_few_names S) S.inodes ≡ true

blank-ended : (limit : ℕ) → IsEnded (blank limit)
blank-ended limit = record {
  size = omega arith;
  most = omega arith;
  blocks = All-nil (λ (e : ℕ × Inode). length e.1.file.allocated < 2 ^ 32);
  few = refl;
}

made-ended : (limit : ℕ) (rows : List Row) → limit ≤ 2 ^ 40 → row_fault limit rows ≡ None → IsEnded (made_of limit rows)
made-ended limit rows small none =
    let passes = passed rows (made_of limit rows) none in
    let fit = bounds-fit (made_of limit rows) rows passes in
    record {
      size = fit.0;
      most = fit.1;
      blocks = few-blocks (made_of limit rows) rows passes (made-well limit rows) (subst (λ n. n ≤ 2 ^ 40) (sym (made-limit limit rows)) small);
      few = (and_parts (list_all (leads (made_of limit rows)) (made_of limit rows).names && not (has_too_many_links (made_of limit rows)))
          (list_all (has_few_names (made_of limit rows)) (made_of limit rows).inodes) passes.led).1;
    }

ended-of : (limit : ℕ) (rows : List Row) → limit ≤ 2 ^ 40 → (rows ≡ []) ⊎ (row_fault limit rows ≡ None) → IsEnded (made_of limit rows)
ended-of limit rows small fine =
    ⊎_elim
    (λ none. subst (λ xs. IsEnded (made_of limit xs)) (sym none) (blank-ended limit))
    (λ none. made-ended limit rows small none)
    fine

pub told-ended : (limit : ℕ) (rows : List Row) (told : Told) → limit ≤ 2 ^ 40 → IsToldBy limit rows told → IsEnded told.state
told-ended limit rows told small tell = subst IsEnded tell.state (ended-of limit rows small (last-fine limit [] rows tell.pass))

-- ---- of an opening that tells so much

module _ (o : Inside) (kept : IsKept o) (now : Told) (view : told_in o ≡ now) (limit : ℕ) (rows : List Row) (small : limit ≤ 2 ^ 40)
    (tell : IsToldBy limit rows now) where
  pub ended-in : IsEnded (state_in o)
  ended-in = subst (λ (t : Told). IsEnded t.state) (sym view) (told-ended limit rows now small tell)

  pub opened-in : IsOpened (state_in o) o.bounds o.tree
  opened-in = record { is_of = kept.tree; size = refl; most_inodes = refl; few_names = ended-in.few }
