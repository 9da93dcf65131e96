-- Numbers that are among others.
use Rattle.std.specs.Prelude.{ℕ, nat_eq, Bool, List}
use Rattle.std.specs.List.{list_any}

-- it is one of these
abbrev pub is_among : ℕ → List ℕ → Bool
is_among number numbers = list_any (λ n. nat_eq number n) numbers
