-- Numbers go on: none is given again.
use Rattle.std.proofs.Common.{◌≡◌, ℕ, ◌==◌, Bool, true, false, cond, ◌||◌, List, [], ◌∷◌, All, is_some, Option, Some, refl, arith, tests}
use Rattle.std.specs.Ordering.{nat_cmp}
use Rattle.std.specs.BTreeMap.{is_at}
use Rattle.std.specs.Map.{lookup}
use Rattle.std.proofs.lemmas.List.Elements.{All-cons, All-filter, All-nil}
use Rattle.qplain.specs.Caller.{Caller}
use Rattle.qplain.specs.State.{Inode, State, inode_at}
use Rattle.qplain.specs.Use.{has_name}
use Rattle.qplain.specs.Names.{with_name, without_name}
use Rattle.qplain_laws.specs.Laws.{FitsTogether, GoesOn, NumbersGoOn}
use Rattle.qplain_laws.proofs.Becoming.{HoldsOfResults, step-becomes}
use Rattle.qplain_laws.proofs.Fitting.{or_right}
use Rattle.qplain_laws.proofs.Tables.{All-insert_new, All-keys-set_value, absent-fresh, at-itself}

-- the number stood in the old state, or was next
abbrev stood : State → ℕ → Bool
stood S n = is_some (inode_at S n) || n == S.next

-- what stands after one entry is found, or that entry is
found-behind : (b : Bool) (inode : Inode) (rest : Option Inode) → is_some rest ≡ true → is_some (cond b (Some inode) rest) ≡ true
found-behind true inode rest found = refl
found-behind false inode rest found = found

-- each entry's number is found
found-each : (es : List (ℕ × Inode)) → All (λ e. is_some (lookup (is_at (nat_cmp e.0)) es) ≡ true) es
found-each [] = All-nil (λ (e : ℕ × Inode). is_some {T = Inode} (lookup (is_at (nat_cmp e.0)) []) ≡ true)
found-each (e ∷ es) =
    All-cons (λ (x : ℕ × Inode). is_some (lookup (is_at (nat_cmp x.0)) (e ∷ es)) ≡ true) e es (rw (at-itself e.0) refl)
    (λ k d below. found-behind _ e.1 _ (found-each es k d below))

all-stood : (S : State) → All (λ e. stood S e.0 ≡ true) S.inodes
all-stood S = λ k d below. rw (found-each S.inodes k d below) refl

-- what is left of the inodes, and the same next number, go on
kept : (S : State) → GoesOn S S
kept S = record { next = omega arith; numbers = all-stood S }

results_go_on : (S : State) (cred : Caller) → FitsTogether S → HoldsOfResults (GoesOn S) S cred
results_go_on S cred fits = record {
  created = λ inode dir name own known sound stands absent few. record {
    next = omega arith;
    numbers = All-insert_new (λ e. stood S e.0 ≡ true) nat_cmp S.inodes S.next inode (absent-fresh S.inodes S.next fits.inodes.fresh) (all-stood S)
        (or_right (is_some (inode_at S S.next)) (S.next == S.next) (grind (arith, tests)));
  };
  changed = λ number inode after there follows may. record {
    next = omega arith;
    numbers = All-keys-set_value (λ n. stood S n ≡ true) (is_at (nat_cmp number)) S.inodes after (all-stood S);
  };
  removed = λ dir name number inode led there empty may. record {
    next = omega arith;
    numbers = All-filter (λ (e : ℕ × Inode). has_name (without_name S dir name) e.0) (λ e. stood S e.0 ≡ true) S.inodes (all-stood S);
  };
  linked = λ number inode dir name there file stands absent few. record { next = omega arith; numbers = all-stood S };
  renamed = λ to dir name number inode to_dir to_name placed outside led there stands other empty may may_too few. record {
    next = omega arith;
    numbers = All-filter (λ (e : ℕ × Inode). has_name (with_name (without_name (without_name S dir name) to_dir to_name) to_dir to_name number) e.0)
        (λ e. stood S e.0 ≡ true) S.inodes (all-stood S);
  };
  limited = λ kind id limits may. record { next = omega arith; numbers = all-stood S };
  graced = λ graces may. record { next = omega arith; numbers = all-stood S };
}

pub numbers_go_on : NumbersGoOn
numbers_go_on S cred moment call lawful =
    step-becomes (GoesOn S) S cred (results_go_on S cred lawful.parts) (GoesOn S) moment call (kept S)
    (λ new goes granted. record { next = goes.next; numbers = goes.numbers })
