-- Calls that are spelled out are read again where more words stand after them.
use Rattle.std.proofs.Common.{◌≡◌, ℕ, ◌<◌, ◌^◌, suc, true, false, nat_lt, codes, decimal, List, ◌∷◌, ◌++◌, length, Some, None, Ok, refl, arith}
use Rattle.std.proofs.lemmas.Bool.{le-ltb}
use Rattle.qplain.specs.declared.call.Call.{Call}
use Rattle.qplain.specs.declared.edition.Edition.{Edition}
use Rattle.qplain.specs.declared.edition.Edition.TheVariants.{One, Two}
use Rattle.qplain.specs.Projects.{call_names_project}
use Rattle.qplain.specs.declared.call.Call.TheVariants.{Create, Mkdir, Write, Truncate, Read, Stat, Link, Unlink, Rmdir, Rename, Chown, SetQuota, SetGrace, Quota}
use Rattle.qtext.proofs.WordsAgain.{are_digits, data_again}
use Rattle.qtext_read.specs.Rows.{verb_of}
use Rattle.qtext_read.specs.Rows.{values_in}
use Rattle.qtext_read.specs.Calls.{call_by, call_of}
use Rattle.qtext_read.specs.Journaled.{counted_call_of, in_one_case, is_project_word, journaled_call_in, journaled_call_of, journaled_verb_of}
use Rattle.qtext_read.specs.Spelling.{call_words}
use Rattle.qplain.specs.Calls.{IsCall}
use Rattle.qtext_read.proofs.ArgumentsAgain.{any_id, digits_lack_arrow, kind_again, owner_again, path_again}
use Rattle.qtext_read.proofs.CallsAgain.{any_number}
use Rattle.qtext_read.proofs.Editions.{OnlyInTwo}
use Rattle.qtext_read.proofs.RepliesAgain.{lower_data}

-- there are as many words as are wanted
enough_1 : (more : ℕ) → nat_lt (suc more) 1 ≡ false
enough_1 more = le-ltb _ _ (omega arith)

enough_2 : (more : ℕ) → nat_lt (suc (suc more)) 2 ≡ false
enough_2 more = le-ltb _ _ (omega arith)

enough_3 : (more : ℕ) → nat_lt (suc (suc (suc more))) 3 ≡ false
enough_3 more = le-ltb _ _ (omega arith)

enough_4 : (more : ℕ) → nat_lt (suc (suc (suc (suc more)))) 4 ≡ false
enough_4 more = le-ltb _ _ (omega arith)

enough_6 : (more : ℕ) → nat_lt (suc (suc (suc (suc (suc (suc more)))))) 6 ≡ false
enough_6 more = le-ltb _ _ (omega arith)

-- the arrow is no project
no_project : (edition : Edition) → is_project_word edition (codes "=>") ≡ false
no_project One = refl
no_project Two = refl

-- an id is one in edition 2
id_is_project : (id : ℕ) → id < 2 ^ 32 → is_project_word Two (decimal id) ≡ true
id_is_project id lt = rw (digits_lack_arrow (decimal id) (are_digits id (omega (arith, lt)))) refl

-- the call whose words these are, and how many they are, where an arrow stands after them
pub journaled_again : (edition : Edition) (k : Call) → IsCall k → OnlyInTwo edition (call_names_project k) → (rest : List (List ℕ))
    → journaled_call_in edition (call_words k ++ codes "=>" ∷ rest) ≡ Ok (k, length (call_words k))
unfolding journaled_call_in counted_call_of journaled_verb_of journaled_call_of in_one_case verb_of call_of values_in call_by
journaled_again edition (Create p) k old rest = rw (enough_1 (length (codes "=>" ∷ rest)), path_again p k) refl
journaled_again edition (Mkdir p) k old rest = rw (enough_1 (length (codes "=>" ∷ rest)), path_again p k) refl
journaled_again edition (Stat p) k old rest = rw (enough_1 (length (codes "=>" ∷ rest)), path_again p k) refl
journaled_again edition (Unlink p) k old rest = rw (enough_1 (length (codes "=>" ∷ rest)), path_again p k) refl
journaled_again edition (Rmdir p) k old rest = rw (enough_1 (length (codes "=>" ∷ rest)), path_again p k) refl
journaled_again edition (Write p off bytes) k old rest =
    rw (enough_3 (length (codes "=>" ∷ rest)), path_again p k.0, any_number off k.1, data_again bytes k.2, lower_data bytes k.2) refl
journaled_again edition (Read p off len) k old rest = rw (enough_3 (length (codes "=>" ∷ rest)), path_again p k.0, any_number off k.1, any_number len k.2) refl
journaled_again edition (Truncate p size) k old rest = rw (enough_2 (length (codes "=>" ∷ rest)), path_again p k.0, any_number size k.1) refl
journaled_again edition (Link from to) k old rest = rw (enough_2 (length (codes "=>" ∷ rest)), path_again from k.0, path_again to k.1) refl
journaled_again edition (Rename from to) k old rest = rw (enough_2 (length (codes "=>" ∷ rest)), path_again from k.0, path_again to k.1) refl
journaled_again edition (Chown p uid gid None) k old rest =
    rw (no_project edition, enough_3 (length (codes "=>" ∷ rest)), path_again p k.0, owner_again uid k.1, owner_again gid k.2) refl
journaled_again One (Chown p uid gid (Some project)) k old rest = absurd (cc (old refl))
journaled_again Two (Chown p uid gid (Some project)) k old rest =
    rw (
      id_is_project project k.3,
      enough_4 (length (codes "=>" ∷ rest)),
      path_again p k.0,
      owner_again uid k.1,
      owner_again gid k.2,
      any_id project k.3,
    ) refl
journaled_again edition (SetQuota kind id limits) k old rest =
    rw (
      enough_6 (length (codes "=>" ∷ rest)),
      kind_again edition kind old,
      any_id id k.0,
      any_number limits.block_soft k.1.block_soft,
      any_number limits.block_hard k.1.block_hard,
      any_number limits.inode_soft k.1.inode_soft,
      any_number limits.inode_hard k.1.inode_hard,
    ) refl
journaled_again edition (SetGrace graces) k old rest = rw (enough_2 (length (codes "=>" ∷ rest)), any_number graces.block k.0, any_number graces.inode k.1) refl
journaled_again edition (Quota kind id) k old rest = rw (enough_2 (length (codes "=>" ∷ rest)), kind_again edition kind old, any_id id k) refl
