-- Parts that are put one after the other, and the same parts put together first.
use Rattle.std.proofs.Common.{◌≡◌, ℕ, List, [], ◌++◌, append_assoc}
use Rattle.std.proofs.lemmas.List.{append-nil}

pub nine_parts : (line a b c d e f g h i : List ℕ) → line ++ a ++ b ++ c ++ d ++ e ++ f ++ g ++ h ++ i
    ≡ line ++ (a ++ (b ++ (c ++ (d ++ (e ++ (f ++ (g ++ (h ++ (i ++ [])))))))))
nine_parts line a b c d e f g h i = simp (append_assoc, append-nil)

pub ten_parts : (line a b c d e f g h i j : List ℕ) → line ++ a ++ b ++ c ++ d ++ e ++ f ++ g ++ h ++ i ++ j
    ≡ line ++ (a ++ (b ++ (c ++ (d ++ (e ++ (f ++ (g ++ (h ++ (i ++ (j ++ []))))))))))
ten_parts line a b c d e f g h i j = simp (append_assoc, append-nil)
