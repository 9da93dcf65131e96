-- What comes of a file for boards, step by step.
use Rattle.std.proofs.Common.{◌≡◌, inl, inr, ℕ, Bool, true, false, List, [], ◌∷◌, ◌++◌, Option, Some, None, IsSome, refl, sym, ap, subst, ◌∙◌}
use Rattle.std.specs.Io.KnownBytes.{Appends}
use Rattle.qplain.specs.declared.board.Board.{Board}
use Rattle.qplain.specs.Setups.{Setting}
use Rattle.qtext_metrics.specs.Metrics.{metrics_text}
use Rattle.qtext_metrics.specs.Services.{service_text}
use Rattle.qtool_files.specs.BoardFiles.{FileAt, GoesOn, HoldsLast, IsBoardFile, StandsCounted}
use Rattle.qtool_files.specs.Held.{StandsUnder}
use Rattle.qtool_files.proofs.Drafts.{written_whole}

abbrev Files : Type 0
Files = Option (List ℕ → Option (List ℕ))

-- a draft that was empty, and to which this text was written, was put under the name
pub shown_whole : (old new : Files) (empty written : Option (List ℕ)) (name text : List ℕ) → (IsSome old → empty ≡ Some []) → Appends empty written text
    → ((t : List ℕ) → written ≡ Some t → StandsUnder old new name t) → StandsUnder old new name text
shown_whole None new empty written name text none appends kept = tt
shown_whole (Some old) new empty written name text none appends kept = kept text (written_whole empty written text (none refl) appends)

-- a text in the place of another
kept_over : (old mid new : Files) (name first text : List ℕ) → StandsUnder old mid name first → StandsUnder mid new name text → StandsUnder old new name text
kept_over None mid new name first text one two = tt
kept_over (Some old) None new name first text one two = absurd one
kept_over (Some old) (Some mid) None name first text one two = absurd two
kept_over (Some old) (Some mid) (Some new) name first text one two = (two.0, λ other apart. two.1 other apart ∙ one.1 other apart)

module _ (setting : Setting) (name : List ℕ) where
  -- a file that has not refused, and whose last board has this text
  abbrev with_text : List ℕ → Files → FileAt
  with_text text held = record { refused = false; shown = Some text; held = held }

  holds_more : (old : FileAt) (mid new : Files) (b : Board) (boards : List Board) → StandsCounted old.held mid name (metrics_text setting b)
      → HoldsLast setting name (with_text (metrics_text setting b) mid) new boards → HoldsLast setting name old new (b ∷ boards)
  holds_more old mid new b boards (counts, one) (inl (none, same)) =
      let text = metrics_text setting b in
      inr (text, inr ([], b, ap (λ bs. b ∷ bs) none, refl), (counts, subst (λ f. StandsUnder old.held f name (text ++ service_text counts)) (sym same) one))
  holds_more old mid new b boards (counts, one) (inr (text, inl (none, is), (counted, two))) =
      let same : text ≡ metrics_text setting b = cc in
      inr (text, inr ([], b, ap (λ bs. b ∷ bs) none, same), (counted, kept_over old.held mid new name _ _ one two))
  holds_more old mid new b boards (counts, one) (inr (text, inr (before, last, parts, is), (counted, two))) =
      inr (text, inr (b ∷ before, last, ap (λ bs. b ∷ bs) parts, is), (counted, kept_over old.held mid new name _ _ one two))

  holds_again : (old mid new : Files) (text : List ℕ) (boards : List Board) → StandsCounted old mid name text
      → HoldsLast setting name (with_text text mid) new boards → HoldsLast setting name (with_text text old) new boards
  holds_again old mid new text boards (counts, one) (inl (none, same)) =
      inr (text, inl (none, refl), (counts, subst (λ f. StandsUnder old f name (text ++ service_text counts)) (sym same) one))
  holds_again old mid new text boards (counts, one) (inr (later, last, (counted, two))) =
      inr (later, last, (counted, kept_over old mid new name _ _ one two))

  -- it has refused before, or does so now: no board is written
  pub refuses : (refused : Bool) (shown then_shown : Option (List ℕ)) (old mid new : Files) (first boards : List Board) (after : Bool) → mid ≡ old
      → IsBoardFile setting name (record { refused = true; shown = then_shown; held = mid }) boards after new
      → IsBoardFile setting name (record { refused = refused; shown = shown; held = old }) (first ++ boards) after new
  refuses refused shown then_shown old mid new first boards after same is =
      let none = is.no_more refl in
      record {
        written = [];
        first = (first ++ boards, refl);
        all = λ not. absurd (apart (sym none.2 ∙ not));
        holds = inl (refl, none.1 ∙ same);
        no_more = λ before. (refl, none.1 ∙ same, none.2);
      }
    where
      apart : true ≡ false → ⊥
      apart is = absurd cc

  -- a board was written
  pub writes : (shown : Option (List ℕ)) (old mid new : Files) (b : Board) (boards : List Board) (after : Bool)
      → StandsCounted old mid name (metrics_text setting b)
      → IsBoardFile setting name (with_text (metrics_text setting b) mid) boards after new
      → IsBoardFile setting name (record { refused = false; shown = shown; held = old }) (b ∷ boards) after new
  writes shown old mid new b boards after kept is = record {
    written = b ∷ is.written;
    first = (is.first.0, ap (λ bs. b ∷ bs) is.first.1);
    all = λ not. ap (λ bs. b ∷ bs) (is.all not);
    holds = holds_more (record { refused = false; shown = shown; held = old }) mid new b is.written kept is.holds;
    no_more = λ before. absurd cc;
  }

  -- the board that was shown last was written again
  pub writes_again : (old mid : Files) (text : List ℕ) → StandsCounted old mid name text
      → GoesOn setting name (with_text text old) (with_text text mid)
  writes_again old mid text kept boards after new is = record {
    written = is.written;
    first = is.first;
    all = is.all;
    holds = holds_again old mid new text is.written kept is.holds;
    no_more = λ before. absurd cc;
  }

  -- nothing more is shown
  pub ends : (at : FileAt) → IsBoardFile setting name at [] at.refused at.held
  ends at = record {
    written = [];
    first = ([], refl);
    all = λ not. refl;
    holds = inl (refl, refl);
    no_more = λ before. (refl, refl, before);
  }
