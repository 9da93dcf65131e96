-- Moments, told by themselves or as so much later.
use Rattle.std.specs.Prelude.{ℕ, ◌+◌, ◌==◌, Bool, false, ◌||◌, ◌&&◌, not, List, [], ◌∷◌, drop, decimal, Option}
use Rattle.std.specs.Prelude.{Some, None, if◌then◌else◌}
use Rattle.std.specs.Char.{is_ascii_digit}
use Rattle.qtext_expand.specs.declared.value.Measure.TheVariants.{Seconds}
use Rattle.qtext_expand.specs.FriendlyWords.{begins, is_caller}
use Rattle.qtext_expand.specs.Values.{decimal_or, fits, value}

-- so much after a moment
abbrev pub later : ℕ → Option ℕ → Option ℕ
later when None = None
later when (Some span) = fits (when + span)

-- the moment that a word tells, where the clock stands at `when`
unfoldable pub moment_in : ℕ → List ℕ → Option ℕ
moment_in when word =
    if begins 43 word then later when (value Seconds (drop 1 word)) else value Seconds word

-- the first byte is a digit or a plus
abbrev pub begins_moment : List ℕ → Bool
begins_moment [] = false
begins_moment (b ∷ bs) = b == 43 || is_ascii_digit b

-- a word in the place of a moment: it begins so, and is no caller
abbrev pub is_moment : List ℕ → Bool
is_moment word = begins_moment word && not (is_caller word)

-- where the clock stands, the text of that, and the words that follow
pub record Timed : Type 0 where
  pub when : ℕ
  pub moment : List ℕ
  pub rest : List (List ℕ)

-- where the clock stands after a moment that was told, or still
abbrev pub set_clock : ℕ → Option ℕ → ℕ
set_clock when None = when
set_clock when (Some n) = n

-- a line's moment, and what follows: where it tells none, the clock stands as it did
unfoldable pub timed : ℕ → List (List ℕ) → Timed
timed when [] = record { when = when; moment = decimal when; rest = [] }
timed when (w ∷ ws) =
    if is_moment w
    then record { when = set_clock when (moment_in when w); moment = decimal_or w (moment_in when w); rest = ws }
    else record { when = when; moment = decimal when; rest = w ∷ ws }
