-- What is known of the streams of a client, and what happens to them.
use Rattle.std.specs.Prelude.{◌≡◌, ◌≢◌, ◌<◌, ◌⊎◌, ℕ, Bool, true, false, List, [], ◌++◌, length}
use Rattle.std.specs.Prelude.{Option, Some, None, IfSome, IsSome}
use Rattle.std.specs.Io.Buffered.{writer_contents}
use Rattle.std.specs.declared.io.buffered.BufWriter.{BufWriter}
use Rattle.qrun_client.specs.declared.client.ClientEnd.{ClientEnd}
use Rattle.qrun_client.specs.declared.client.ClientEnd.TheVariants.{Served, Output}
use Rattle.qtext_client.specs.BoundedLines.{Passes}
use Rattle.qtext_client.specs.declared.bounded_line.Got.{Got}
use Rattle.qtext_client.specs.declared.bounded_line.Got.TheVariants.{Text, TooLong, NoMemory, End, Refused}
use Rattle.qtext_client.specs.declared.bounded_line.TheConstants.{MAX_LINE}

-- the bytes that the input still gives and those that the output holds, where they are known, and how the client has
-- ended, where it has
pub record Wire : Type 0 where
  pub hears : Option (List ℕ)
  pub wrote : Option (List ℕ)
  pub end : Option ClientEnd

-- an output holds these bytes, and none where it was never opened
abbrev pub HeldBy : {O A : Type 0} → (O → Option (List ℕ)) → Option (BufWriter O A) → List ℕ → Type 0
HeldBy contents None bytes = bytes ≡ []
HeldBy contents (Some output) bytes = writer_contents contents output ≡ Some bytes

-- what is still known has grown by the text
abbrev pub GrowsBy : Option (List ℕ) → Option (List ℕ) → List ℕ → Type 0
GrowsBy old new text = IfSome new (λ bytes. (before : List ℕ) × (old ≡ Some before) × (bytes ≡ before ++ text))

-- ---- what no public clause cites

-- what is still known is what it was
abbrev pub TellsNothing : Option (List ℕ) → Option (List ℕ) → Type 0
TellsNothing old new = IfSome new (λ bytes. old ≡ Some bytes)

-- what is known stays so
abbrev pub StaysKnown : Option (List ℕ) → Option (List ℕ) → Type 0
StaysKnown old new = IfSome old (λ bytes. new ≡ Some bytes)

-- nothing was said or told
pub record Stays (old new : Wire) : Type 0 where
  pub ends : new.end ≡ old.end
  pub hears : StaysKnown old.hears new.hears
  pub wrote : TellsNothing old.wrote new.wrote

-- the client's streams are let go of, and it has ended so: nothing is heard any more
pub record LetsGo (end : ClientEnd) (old new : Wire) : Type 0 where
  pub still : old.end ≡ None
  pub ends : new.end ≡ Some end
  pub deaf : new.hears ≡ Some []
  pub wrote : (end ≡ Output → ⊥) → TellsNothing old.wrote new.wrote

-- they were let go of now, or had been before
abbrev pub HasLetGo : ClientEnd → Wire → Wire → Type 0
HasLetGo end old new = LetsGo end old new ⊎ (IsSome old.end × (new ≡ old))

-- they were let go of before the lines had ended, or the client had ended before
abbrev pub IsGone : Wire → Wire → Type 0
IsGone old new = (end : ClientEnd) × (end ≢ Served) × HasLetGo end old new

-- where it is to end, that is so, and else nothing has happened
abbrev pub IsGoneIf : Bool → Wire → Wire → Type 0
IsGoneIf true old new = IsGone old new
IsGoneIf false old new = new ≡ old

-- the client has ended so, and where it was served all was heard
pub record EndsBy (end : ClientEnd) (old new : Wire) : Type 0 where
  pub still : old.end ≡ None
  pub ends : new.end ≡ Some end
  pub deaf : new.hears ≡ Some []
  pub wrote : (end ≡ Output → ⊥) → TellsNothing old.wrote new.wrote
  pub all : end ≡ Served → IfSome old.hears (λ bytes. bytes ≡ [])

-- it has ended so now, or had ended before
abbrev pub HasEndedBy : ClientEnd → Wire → Wire → Type 0
HasEndedBy end old new = EndsBy end old new ⊎ (IsSome old.end × (new ≡ old))

-- it has ended somehow
abbrev pub HasEnded : Wire → Wire → Type 0
HasEnded old new = (end : ClientEnd) × HasEndedBy end old new

-- a client's streams were let go of: its output took this, where that is known, and it has ended so
pub record IsClosed (old : Wire) (took : Option (List ℕ)) (end : ClientEnd) : Type 0 where
  pub new : Wire
  pub ended : HasEnded old new
  pub deaf : new.hears ≡ Some []
  pub end_is : new.end ≡ Some end
  pub took_is : new.wrote ≡ took

-- a line of this text was heard
pub record Hears (old new : Wire) (text : List ℕ) : Type 0 where
  pub still : (old.end ≡ None) × (new.end ≡ None)
  pub line : Passes old.hears new.hears text
  pub wrote : TellsNothing old.wrote new.wrote

-- what came of the next line
abbrev pub HearsSome : Wire → Wire → List ℕ → Got → Type 0
HearsSome old new room Text = Hears old new room
HearsSome old new room TooLong = (text : List ℕ) × Hears old new text × (MAX_LINE < length text)
HearsSome old new room NoMemory = (text : List ℕ) × Hears old new text
HearsSome old new room End = HasEnded old new
HearsSome old new room Refused = HasEnded old new

-- a text was written, and nothing heard
pub record Writes (old new : Wire) (text : List ℕ) : Type 0 where
  pub still : (old.end ≡ None) × (new.end ≡ None)
  pub hears : StaysKnown old.hears new.hears
  pub wrote : GrowsBy old.wrote new.wrote text

-- a text was told, or the client has ended since it could not be
abbrev pub IsSent : Wire → Wire → List ℕ → Type 0
IsSent old new text = Writes old new text ⊎ HasEndedBy Output old new

-- a text was told, and where it was the last one the client has ended then
pub record IsToldLast (last : Bool) (old new : Wire) (text : List ℕ) : Type 0 where
  pub mid : Wire
  pub told : IsSent old mid text
  pub after : IsGoneIf last mid new
