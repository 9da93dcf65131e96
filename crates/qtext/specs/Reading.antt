-- Steps of reading that may fail.
use Rattle.std.specs.Prelude.{List, [], ◌∷◌, Result, Ok, Err}

infixl 10 ◌>>=◌
-- what follows a step that gave a value; a fault ends the reading
abbrev pub ◌>>=◌ : {A B E : Type 0} → Result A E → (A → Result B E) → Result B E
(Ok x) >>= f = f x
(Err e) >>= f = Err e

-- one after the other, up to the first fault
unfoldable pub each_of : {A B E : Type 0} → (A → Result B E) → List A → Result (List B) E
each_of read [] = Ok []
each_of read (x ∷ xs) = do
  first ← read x
  others ← each_of read xs
  Ok (first ∷ others)
