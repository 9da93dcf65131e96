-- The samples of clients, one after the other.
use Rattle.std.proofs.Common.{◌≡◌, ◌+◌, ◌<◌, ℕ, get_or, length, add-one, drop-cons, drop, List, ◌∷◌, ◌++◌, Option, ap}
use Rattle.qtext_metrics.specs.Services.{client_row, client_rows}

-- the samples from one client on are that client's, and those of the clients after it
pub client_by_client : (calls : List (Option ℕ)) (i : ℕ) (x d : Option ℕ) → x ≡ get_or calls i d → i < length calls
    → client_rows (i + 1) (drop i calls) ≡ client_row (i + 1) x ++ client_rows (i + 1 + 1) (drop (i + 1) calls)
client_by_client calls i x d is lt =
    let cut : drop i calls ≡ x ∷ drop (i + 1) calls = rw (is, add-one) (drop-cons calls i d lt) in
    ap (client_rows (i + 1)) cut
