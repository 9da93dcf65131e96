-- What one line of a friendly script is written out as.
use Rattle.std.specs.Prelude.{ℕ, Bool, not, List, [], ◌∷◌, ◌++◌, map, codes, Option, Some, None, Result}
use Rattle.std.specs.Prelude.{Ok, Err, if◌then◌else◌}
use Rattle.std.specs.List.{list_all}
use Rattle.std.specs.Str.{bytes_eq}
use Rattle.qplain.specs.Setups.{Setting}
use Rattle.qtext.specs.declared.text_fault.TextKind.{TextKind}
use Rattle.qtext.specs.declared.text_fault.TextKind.TheVariants.{BadByte, BadNumber, Cut, WordCount}
use Rattle.qtext.specs.Reading.{◌>>=◌}
use Rattle.qtext.specs.Words.{is_text_byte, words}
use Rattle.qtext_read.specs.Callers.{caller_of}
use Rattle.qtext_expand.specs.FriendlyCalls.{calls_of}
use Rattle.qtext_expand.specs.FriendlyWords.{begins, friendly_words, is_caller}
use Rattle.qtext_expand.specs.Moments.{moment_in, timed}
use Rattle.qtext_expand.specs.Names.{caller_ids}
use Rattle.qtext_expand.specs.Plain.{each_judged, plain_moment}

-- where the clock stands and who calls after a line, and the plain lines that are written for it
pub record Written : Type 0 where
  pub when : ℕ
  pub who : List ℕ
  pub lines : List (List ℕ)

-- who calls, and the words that follow
pub record Called : Type 0 where
  pub caller : List ℕ
  pub rest : List (List ℕ)

-- a line's caller, and what follows: where it tells none, who calls is as before
unfoldable pub called : Setting → List ℕ → List (List ℕ) → Called
called s who [] = record { caller = who; rest = [] }
called s who (w ∷ ws) =
    if is_caller w then record { caller = caller_ids s w; rest = ws } else record { caller = who; rest = w ∷ ws }

-- MOMENT CALLER
abbrev pub call_head : List ℕ → List ℕ → List ℕ
call_head moment caller = moment ++ 32 ∷ caller

-- a call behind a head, which has a space before each of its words
abbrev pub line_text : List ℕ → List ℕ → List ℕ
line_text head call = head ++ call

-- the moment and the caller of a line
abbrev pub head_of_words : Setting → ℕ → List ℕ → List (List ℕ) → List ℕ
head_of_words s when who ws = call_head (timed when ws).moment (called s who (timed when ws).rest).caller

-- [MOMENT] [CALLER] CALL, for each of its calls a line
unfoldable pub call_lines : Setting → ℕ → List ℕ → List (List ℕ) → Result Written TextKind
call_lines s when who ws = do
  calls ← calls_of s (called s who (timed when ws).rest).rest
  lines ← each_judged (map (line_text (head_of_words s when who ws)) calls)
  Ok (record { when = (timed when ws).when; who = who; lines = lines })

-- as CALLER: who calls from here on
unfoldable pub as_caller : Setting → ℕ → List (List ℕ) → Result Written TextKind
as_caller s when (c ∷ []) = do
  _ ← caller_of (caller_ids s c)
  Ok (record { when = when; who = caller_ids s c; lines = [] })
as_caller s when _ = Err WordCount

-- the clock, set to a moment that was told
abbrev pub at_told : List ℕ → Option ℕ → Result Written TextKind
at_told who None = Err BadNumber
at_told who (Some n) = Ok (record { when = n; who = who; lines = [] })

-- at MOMENT: where the clock stands from here on
unfoldable pub at_moment : ℕ → List ℕ → List (List ℕ) → Result Written TextKind
at_moment when who (m ∷ []) = at_told who (moment_in when m)
at_moment when who _ = Err WordCount

-- what words are written out as
unfoldable pub words_written : Setting → ℕ → List ℕ → List (List ℕ) → Result Written TextKind
words_written s when who [] = Ok (record { when = when; who = who; lines = [] })
words_written s when who (w ∷ ws) =
    if bytes_eq w (codes "as") then as_caller s when ws
    else if bytes_eq w (codes "at") then at_moment when who ws
    else call_lines s when who (w ∷ ws)

-- what a line that is not plain is written out as
unfoldable pub friendly_written : Setting → ℕ → List ℕ → List ℕ → Result Written TextKind
friendly_written s when who bytes =
    if begins 35 bytes then Ok (record { when = when; who = who; lines = [] })
    else if not (list_all is_text_byte bytes) then Err BadByte
    else words_written s when who (friendly_words (words bytes))

-- a plain line stands as it is
abbrev pub unless_plain : Result ℕ TextKind → Setting → ℕ → List ℕ → List ℕ → Result Written TextKind
unless_plain (Ok moment) s when who bytes = Ok (record { when = moment; who = who; lines = bytes ∷ [] })
unless_plain (Err kind) s when who bytes = friendly_written s when who bytes

-- what a line is written out as, whole or not, or the first thing wrong in it
unfoldable pub line_written : Setting → ℕ → List ℕ → Bool → List ℕ → Result Written TextKind
line_written s when who whole bytes =
    if not whole then Err Cut else unless_plain (plain_moment bytes) s when who bytes
