-- The text of an entry, from its parts.
use Rattle.std.proofs.Common.{◌≡◌, ℕ, List, [], ◌∷◌, ◌++◌, refl, sym, ap, ◌∙◌, append_assoc, codes, decimal}
use Rattle.std.specs.List.{join_with_byte}
use Rattle.qplain.specs.declared.call.Call.{Call}
use Rattle.qplain.specs.declared.entry.Entry.{Entry}
use Rattle.qplain.specs.declared.call.Call.TheVariants.{Create, Mkdir, Write, Truncate, Read, Stat, Link, Unlink, Rmdir, Rename, Chown, SetQuota, SetGrace, Quota}
use Rattle.qplain.specs.declared.reply.Reply.{Reply}
use Rattle.qplain.specs.declared.reply.Reply.TheVariants.{Done, Bytes, Stat as StatReply, Quota as QuotaReply, Refused}
use Rattle.qtext_read.specs.Replies.{reply_text}
use Rattle.qtext_read.specs.RepliesSpelled.{reply_words}
use Rattle.qtext_read.specs.Spelling.{call_words, caller_text}
use Rattle.qtext_read.proofs.RepliesJoined.{reply_joined}
use Rattle.qtext_files.specs.Spelling.{entry_text}

-- words that have a first one
record HasFirst (ws : List (List ℕ)) : Type 0 where
  first : List ℕ
  others : List (List ℕ)
  is : ws ≡ first ∷ others

verb_first : (c : Call) → HasFirst (call_words c)
verb_first (Create path) = record { first = _; others = _; is = refl }
verb_first (Mkdir path) = record { first = _; others = _; is = refl }
verb_first (Write path off bytes) = record { first = _; others = _; is = refl }
verb_first (Truncate path size) = record { first = _; others = _; is = refl }
verb_first (Read path off len) = record { first = _; others = _; is = refl }
verb_first (Stat path) = record { first = _; others = _; is = refl }
verb_first (Link from to) = record { first = _; others = _; is = refl }
verb_first (Unlink path) = record { first = _; others = _; is = refl }
verb_first (Rmdir path) = record { first = _; others = _; is = refl }
verb_first (Rename from to) = record { first = _; others = _; is = refl }
verb_first (Chown path uid gid project) = record { first = _; others = _; is = refl }
verb_first (SetQuota kind id limits) = record { first = _; others = _; is = refl }
verb_first (SetGrace graces) = record { first = _; others = _; is = refl }
verb_first (Quota kind id) = record { first = _; others = _; is = refl }

reply_first : (r : Reply) → HasFirst (reply_words r)
reply_first (Done ino c) = record { first = _; others = _; is = refl }
reply_first (Bytes bytes) = record { first = _; others = _; is = refl }
reply_first (StatReply s) = record { first = _; others = _; is = refl }
reply_first (QuotaReply q) = record { first = _; others = _; is = refl }
reply_first (Refused refusal) = record { first = _; others = _; is = refl }

-- words in front of others, with a space between two of them
join_before : (x : List ℕ) (xs : List (List ℕ)) (y : List ℕ) (ys : List (List ℕ))
    → join_with_byte 32 ((x ∷ xs) ++ y ∷ ys) ≡ join_with_byte 32 (x ∷ xs) ++ 32 ∷ join_with_byte 32 (y ∷ ys)
join_before x [] y ys = refl
join_before x (z ∷ xs) y ys =
    ap (λ (l : List ℕ). x ++ 32 ∷ l) (join_before z xs y ys) ∙ sym (append_assoc x (32 ∷ join_with_byte 32 (z ∷ xs)) (32 ∷ join_with_byte 32 (y ∷ ys)))

-- a call, an arrow and a reply
answered : (c : Call) (r : Reply) → join_with_byte 32 (call_words c ++ codes "=>" ∷ reply_words r)
    ≡ join_with_byte 32 (call_words c) ++ (codes " => " ++ reply_text r)
answered c r =
    let verb = verb_first c in
    let reply = reply_first r in
    rw (reply_joined r, verb.is, reply.is) (join_before verb.first verb.others (codes "=>") (reply.first ∷ reply.others))

-- what stands before the call, and then the call, an arrow and a reply
pub entry_joined : (worker moment caller : List ℕ) (c : Call) (r : Reply)
    → join_with_byte 32 (worker ∷ moment ∷ caller ∷ (call_words c ++ codes "=>" ∷ reply_words r))
    ≡ worker ++ 32 ∷ (moment ++ 32 ∷ (caller ++ 32 ∷ (join_with_byte 32 (call_words c) ++ (codes " => " ++ reply_text r))))
entry_joined worker moment caller c r =
    let verb = verb_first c in
    rw (sym (answered c r), verb.is) refl

-- what stands before the call, as it is put into a line
abbrev pub head_of_entry : Entry → List ℕ
head_of_entry e = ((([] ++ decimal e.worker) ++ 32 ∷ decimal e.moment) ++ 32 ∷ []) ++ caller_text e.cred ++ 32 ∷ []

-- what stands after it
abbrev pub tail_of_entry : Entry → List ℕ
tail_of_entry e = codes " => " ++ (reply_text e.reply ++ codes "\n")

regrouped : (s w m c k a r n : List ℕ) → (w ++ (s ++ (m ++ (s ++ (c ++ (s ++ (k ++ (a ++ r)))))))) ++ n
    ≡ ((((([] ++ w) ++ (s ++ m)) ++ s) ++ c) ++ s) ++ (k ++ (a ++ (r ++ n)))
regrouped s w m c k a r n = simp append_assoc

-- the text of an entry: what stands before the call, the call, and what stands after it
pub entry_parts : (e : Entry) → entry_text e ≡ head_of_entry e ++ (join_with_byte 32 (call_words e.call) ++ tail_of_entry e)
entry_parts e = rw (entry_joined (decimal e.worker) (decimal e.moment) (caller_text e.cred) e.call e.reply)
    (regrouped (32 ∷ []) (decimal e.worker) (decimal e.moment) (caller_text e.cred) (join_with_byte 32 (call_words e.call)) (codes " => ")
    (reply_text e.reply) (codes "\n"))
