-- Reads into a buffer.
use Rattle.std.proofs.Common.{◌≡◌, ℕ, List, length, drop, take, Result, Ok, Err, IfErr, refl, sym, subst, ◌∙◌, arith}
use Rattle.std.proofs.lemmas.List.{length-take}
use Rattle.qblocks.specs.File.{File, read_at}
use Rattle.qplain.specs.declared.call.Call.TheVariants.{Read}
use Rattle.qplain.specs.declared.refusal.Refusal.{Refusal}
use Rattle.qplain.specs.declared.reply.Reply.TheVariants.{Bytes, Refused}
use Rattle.qplain.specs.Attempt.{Refuse, at_path}
use Rattle.qplain.specs.Caller.{Caller}
use Rattle.qplain.specs.Files.{read_from}
use Rattle.qplain.specs.State.{State}
use Rattle.qplain.specs.Step.{step}
use Rattle.qstore.specs.Applied.{IsReadInto}

-- a refusal that is handed on is that of each read
pub told-refused : {A : Type 0} (S : State) (path : List ℕ) (refusal : Refusal) (result : Result A Refusal) → result ≡ Err refusal
    → ((off len : ℕ) → at_path S (read_from off len) path ≡ Refuse refusal)
    → IfErr result (λ r. (off len : ℕ) → at_path S (read_from off len) path ≡ Refuse r)
told-refused S path refusal result is refused =
    subst (λ o. IfErr o (λ r. (off len : ℕ) → at_path S (read_from off len) path ≡ Refuse r)) (sym is) refused

module _ (S : State) (cred : Caller) (moment : ℕ) (path : List ℕ) (off : ℕ) (old : List ℕ) where
  -- a read that is refused leaves the buffer
  pub read-refused : (refusal : Refusal) (result : Result ℕ Refusal) → result ≡ Err refusal
      → (S, Refused refusal) ≡ step S cred moment (Read path off (length old)) → IsReadInto S cred moment path off old old result
  read-refused refusal result is refused =
      subst (IsReadInto S cred moment path off old old) (sym is)
      (record { read = tt; count = tt; behind = tt; refused = refused; kept = refl })

  -- one that is not puts its bytes there
  pub read-answered : (file : File) (new : List ℕ) (count : ℕ) → take count new ≡ read_at file off (length old)
      → count ≡ length (read_at file off (length old)) → drop count new ≡ drop count old
      → (S, Bytes (read_at file off (length old))) ≡ step S cred moment (Read path off (length old))
      → IsReadInto S cred moment path off old new (Ok count)
  read-answered file new count bytes is behind told =
      let few = length-take (length old) (drop off file.bytes) in
      record {
        read = (λ i. (S, Bytes (bytes i))) ∙ told;
        count = omega (arith, is, few);
        behind = behind;
        refused = tt;
        kept = tt;
      }
