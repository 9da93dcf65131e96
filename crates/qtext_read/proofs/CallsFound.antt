-- Calls that were read have parts that their types can hold, and those of journals are spelled out in the words that stood there.
use Rattle.std.proofs.Common.{◌≡◌, ℕ, suc, ◌+◌, true, false, not, List, [], ◌∷◌, length, take, replicate, Some, None, Result, Ok, Err, refl, ◌∙◌, arith, ◌++◌, sym, append_assoc}
use Rattle.std.specs.Prelude.{nat_lt}
use Rattle.std.specs.List.{list_any}
use Rattle.std.specs.Char.{is_ascii_uppercase}
use Rattle.std.proofs.lemmas.Bool.Decides.{nat_tests}
use Rattle.std.proofs.lemmas.Bool.{le-ltb}
use Rattle.std.proofs.lemmas.List.{length-take}
use Rattle.qrules.specs.declared.limits.Limits.{Limits}
use Rattle.qplain.specs.declared.call.Call.{Call}
use Rattle.qplain.specs.declared.call.Call.TheVariants.{Create, Mkdir, Write, Truncate, Read, Stat, Link, Unlink, Rmdir, Rename, Chown, SetQuota, SetGrace, Quota}
use Rattle.qplain.specs.declared.edition.Edition.{Edition}
use Rattle.qplain.specs.declared.edition.Edition.TheVariants.{One, Two}
use Rattle.qplain.specs.Projects.{call_names_project}
use Rattle.qtext.specs.declared.text_fault.TextKind.TheVariants.{BadHex, BadNumber, BadVerb, WordCount}
use Rattle.qtext.specs.Data.{byte_of, data_of}
use Rattle.qtext.specs.Reading.{◌>>=◌}
use Rattle.qtext.specs.declared.text_fault.TextKind.{TextKind}
use Rattle.qtext.specs.Words.{number_of}
use Rattle.qtext.proofs.Joining.{not_true}
use Rattle.qtext.proofs.StepsFound.{kept, not_false, passed, same_ok, Spells, step_found, told}
use Rattle.qtext.proofs.DataFound.{byte_fits, data_fits, data_found, equal_fits}
use Rattle.qtext_read.specs.declared.row.TheConstants.{MAX_FILL}
use Rattle.qtext_read.specs.declared.row.Verb.{Verb}
use Rattle.qtext_read.specs.declared.row.Argument.{Argument}
use Rattle.qtext_read.specs.declared.row.Verb.TheVariants as verb
use Rattle.qtext_read.specs.Rows.{verb_of, verb_text}
use Rattle.qtext_read.specs.Rows.{row, Value, PathValue, DataValue, NumberValue, KindValue, OwnerValue, ProjectValue, arity, takes, value_in, values_in}
use Rattle.qtext_read.specs.Calls.{call_by, call_of, call_in}
use Rattle.qtext_read.specs.Journaled.{argument_count, counted_call_of, has_project, in_one_case, is_fill, journaled_call_in, journaled_call_of}
use Rattle.qtext_read.specs.Journaled.{journaled_verb_of}
use Rattle.qtext_read.specs.Spelling.{call_words}
use Rattle.qplain.specs.Calls.{IsCall}
use Rattle.qtext_read.proofs.ArgumentsFound.{any_id, any_kind, any_number, any_owner, any_path}
use Rattle.qtext_read.proofs.Editions.{OnlyInTwo}

-- the verb that a word spells is spelled so
verb_found : (word : List ℕ) (v : Verb) → verb_of word ≡ Ok v → verb_text v ≡ word
unfolding verb_of
verb_found word v e =
    told verb_text word verb.Write _ v
    (told verb_text word verb.Stat _ v
    (told verb_text word verb.Read _ v
    (told verb_text word verb.Create _ v
    (told verb_text word verb.Mkdir _ v
    (told verb_text word verb.Fill _ v
    (told verb_text word verb.Truncate _ v
    (told verb_text word verb.Link _ v
    (told verb_text word verb.Unlink _ v
    (told verb_text word verb.Rmdir _ v
    (told verb_text word verb.Rename _ v
    (told verb_text word verb.Chown _ v
    (told verb_text word verb.SetQuota _ v
    (told verb_text word verb.SetGrace _ v
    (told verb_text word verb.Quota _ v (λ none. absurd (cc none))))))))))))))))
    e

-- the parts of the call are what their types can hold; where a journal may have it, the words are those of the call; and of no
-- more words than a verb takes without a project, edition 1 reads a call that names none
record IsRead (edition : Edition) (v : Verb) (arguments : List (List ℕ)) (call : Call) : Type 0 where
  pub fits : IsCall call
  pub spelled : is_fill v ≡ false → in_one_case v arguments ≡ true → call_words call ≡ verb_text v ∷ arguments
  pub old : nat_lt (arity v) (length arguments) ≡ false → OnlyInTwo edition (call_names_project call)

-- what is read behind words that have these values gives a call
record IsLeft (edition : Edition) (v : Verb) (before : List Value) (arguments : List Argument) (words : List (List ℕ)) (call : Call)
    : Type 0 where
  pub is : (values_in edition arguments words >>= λ values. call_by v (before ++ values)) ≡ Ok call

-- all is left of the arguments of a call
all_left : (edition : Edition) (v : Verb) (words : List (List ℕ)) (call : Call) → call_of edition v words ≡ Ok call
    → IsLeft edition v [] (row v) words call
unfolding call_of
all_left edition v words call e = record {
  is = (kept (takes v (length words)) (values_in edition (row v) words >>= call_by v) WordCount call e).1;
}

one_value : {P : Type 0} (v : Verb) (before : List Value) (value : Result Value TextKind) (others : Result (List Value) TextKind) (call : Call)
    → ((value >>= λ x. (others >>= λ xs. Ok (x ∷ xs))) >>= λ values. call_by v (before ++ values)) ≡ Ok call
    → ((x : Value) → value ≡ Ok x → (others >>= λ xs. call_by v ((before ++ x ∷ []) ++ xs)) ≡ Ok call → P) → P
one_value v before (Ok x) (Ok xs) call e goal = goal x refl (rw (append_assoc before (x ∷ []) xs) e)
one_value v before (Ok x) (Err fault) call e goal = absurd (cc e)
one_value v before (Err fault) others call e goal = absurd (cc e)

-- a step gives the value in the place of the first of the arguments
next_step : {A P : Type 0} {edition : Edition} {v : Verb} {before : List Value} {a : Argument} {arguments : List Argument} {w : List ℕ}
    {words : List (List ℕ)} {call : Call} (first : Result A TextKind) (value : A → Value)
    → value_in edition a w ≡ (first >>= λ x. Ok (value x)) → IsLeft edition v before (a ∷ arguments) (w ∷ words) call
    → ((x : A) → first ≡ Ok x → IsLeft edition v (before ++ value x ∷ []) arguments words call → P) → P
unfolding values_in
next_step {edition = edition} {v = v} {before = before} {a = a} {arguments = arguments} {w = w} {words = words} {call = call} first value is e goal =
    one_value v before (value_in edition a w) (values_in edition arguments words) call e.is λ y is_y more.
    step_found first _ (sym is ∙ is_y) λ x is_x same. goal x is_x (record { is = rw (same_ok same) more })

-- the same of a step that reads a word
next_word : {A P : Type 0} {edition : Edition} {v : Verb} {before : List Value} {a : Argument} {arguments : List Argument}
    {words : List (List ℕ)} {call : Call} {text : A → List ℕ} {Is : A → Type 0} {read : List ℕ → Result A TextKind} → Spells text Is read
    → (value : A → Value) (w : List ℕ) → value_in edition a w ≡ (read w >>= λ x. Ok (value x))
    → IsLeft edition v before (a ∷ arguments) (w ∷ words) call
    → ((x : A) → text x ≡ w → Is x → IsLeft edition v (before ++ value x ∷ []) arguments words call → P) → P
next_word {read = read} law value w is e goal =
    next_step (read w) value is e (λ x is_x more. let so = law w x is_x in goal x so.0 so.1 more)

-- no word is left
none_left : {edition : Edition} {v : Verb} {before : List Value} {arguments : List Argument} {call : Call}
    → IsLeft edition v before arguments [] call → call_by v (before ++ []) ≡ Ok call
unfolding values_in
none_left {arguments = []} e = e.is
none_left {arguments = a ∷ arguments} e = e.is

left_read : (edition : Edition) (v : Verb) (arguments : List (List ℕ)) (call : Call) → takes v (length arguments) ≡ true
    → IsLeft edition v [] (row v) arguments call → IsRead edition v arguments call
unfolding in_one_case call_by
left_read edition verb.Create (p ∷ []) call many e =
    next_word any_path PathValue p refl e λ path is fits e.
    rw (← same_ok {x = Create path} (none_left e))
    (record { fits = fits; spelled = λ _ _. rw is refl; old = λ _ _. refl })
left_read edition verb.Mkdir (p ∷ []) call many e =
    next_word any_path PathValue p refl e λ path is fits e.
    rw (← same_ok {x = Mkdir path} (none_left e))
    (record { fits = fits; spelled = λ _ _. rw is refl; old = λ _ _. refl })
left_read edition verb.Stat (p ∷ []) call many e =
    next_word any_path PathValue p refl e λ path is fits e.
    rw (← same_ok {x = Stat path} (none_left e))
    (record { fits = fits; spelled = λ _ _. rw is refl; old = λ _ _. refl })
left_read edition verb.Unlink (p ∷ []) call many e =
    next_word any_path PathValue p refl e λ path is fits e.
    rw (← same_ok {x = Unlink path} (none_left e))
    (record { fits = fits; spelled = λ _ _. rw is refl; old = λ _ _. refl })
left_read edition verb.Rmdir (p ∷ []) call many e =
    next_word any_path PathValue p refl e λ path is fits e.
    rw (← same_ok {x = Rmdir path} (none_left e))
    (record { fits = fits; spelled = λ _ _. rw is refl; old = λ _ _. refl })
left_read edition verb.Link (f ∷ t ∷ []) call many e =
    next_word any_path PathValue f refl e λ from is_from from_fits e.
    next_word any_path PathValue t refl e λ to is_to to_fits e.
    rw (← same_ok {x = Link from to} (none_left e)) (record { fits = (from_fits, to_fits); spelled = λ _ _. rw (is_from, is_to) refl; old = λ _ _. refl })
left_read edition verb.Rename (f ∷ t ∷ []) call many e =
    next_word any_path PathValue f refl e λ from is_from from_fits e.
    next_word any_path PathValue t refl e λ to is_to to_fits e.
    rw (← same_ok {x = Rename from to} (none_left e)) (record { fits = (from_fits, to_fits); spelled = λ _ _. rw (is_from, is_to) refl; old = λ _ _. refl })
left_read edition verb.Write (p ∷ o ∷ d ∷ []) call many e =
    next_word any_path PathValue p refl e λ path is_path path_fits e.
    next_word any_number NumberValue o refl e λ off is_off off_fits e.
    next_step (data_of d) DataValue refl e λ bytes is_data e.
    rw (← same_ok {x = Write path off bytes} (none_left e)) (record {
      fits = (path_fits, off_fits, data_fits d bytes is_data);
      spelled = λ _ case. rw (is_path, is_off, data_found d bytes is_data (not_true (list_any is_ascii_uppercase d) case)) refl;
      old = λ _ _. refl;
    })
left_read edition verb.Fill (p ∷ o ∷ c ∷ b ∷ []) call many e =
    next_word any_path PathValue p refl e λ path is_path path_fits e.
    next_word any_number NumberValue o refl e λ off is_off off_fits e.
    next_step (number_of BadNumber MAX_FILL c) NumberValue refl e λ count is_count e.
    next_step (byte_of b) (λ x. DataValue (x ∷ [])) refl e λ byte is_byte e.
    rw (← same_ok {x = Write path off (replicate count byte)} (none_left e)) (record {
      fits = (path_fits, off_fits, equal_fits count byte (byte_fits b byte is_byte));
      spelled = λ journaled. absurd (cc journaled);
      old = λ _ _. refl;
    })
left_read edition verb.Truncate (p ∷ s ∷ []) call many e =
    next_word any_path PathValue p refl e λ path is_path path_fits e.
    next_word any_number NumberValue s refl e λ size is_size size_fits e.
    rw (← same_ok {x = Truncate path size} (none_left e))
    (record { fits = (path_fits, size_fits); spelled = λ _ _. rw (is_path, is_size) refl; old = λ _ _. refl })
left_read edition verb.Read (p ∷ o ∷ l ∷ []) call many e =
    next_word any_path PathValue p refl e λ path is_path path_fits e.
    next_word any_number NumberValue o refl e λ off is_off off_fits e.
    next_word any_number NumberValue l refl e λ len is_len len_fits e.
    rw (← same_ok {x = Read path off len} (none_left e))
    (record { fits = (path_fits, off_fits, len_fits); spelled = λ _ _. rw (is_path, is_off, is_len) refl; old = λ _ _. refl })
left_read edition verb.Chown (p ∷ u ∷ g ∷ []) call many e =
    next_word any_path PathValue p refl e λ path is_path path_fits e.
    next_word any_owner OwnerValue u refl e λ uid is_uid uid_fits e.
    next_word any_owner OwnerValue g refl e λ gid is_gid gid_fits e.
    rw (← same_ok {x = Chown path uid gid None} (none_left e))
    (record { fits = (path_fits, uid_fits, gid_fits, tt); spelled = λ _ _. rw (is_path, is_uid, is_gid) refl; old = λ _ _. refl })
left_read edition verb.Chown (p ∷ u ∷ g ∷ j ∷ []) call many e =
    next_word any_path PathValue p refl e λ path is_path path_fits e.
    next_word any_owner OwnerValue u refl e λ uid is_uid uid_fits e.
    next_word any_owner OwnerValue g refl e λ gid is_gid gid_fits e.
    next_word (any_id BadNumber) (λ x. ProjectValue (Some x)) j refl e λ project is_project project_fits e.
    rw (← same_ok {x = Chown path uid gid (Some project)} (none_left e)) (record {
      fits = (path_fits, uid_fits, gid_fits, project_fits);
      spelled = λ _ _. rw (is_path, is_uid, is_gid, is_project) refl;
      old = λ few. absurd (cc few);
    })
left_read edition verb.SetQuota (k ∷ i ∷ bs ∷ bh ∷ is ∷ ih ∷ []) call many e =
    next_word (any_kind edition) KindValue k refl e λ kind is_kind kind_fits e.
    next_word (any_id BadNumber) NumberValue i refl e λ id is_id id_fits e.
    next_word any_number NumberValue bs refl e λ block_soft is_bs fits_bs e.
    next_word any_number NumberValue bh refl e λ block_hard is_bh fits_bh e.
    next_word any_number NumberValue is refl e λ inode_soft is_is fits_is e.
    next_word any_number NumberValue ih refl e λ inode_hard is_ih fits_ih e.
    let limits : Limits = record { block_soft = block_soft; block_hard = block_hard; inode_soft = inode_soft; inode_hard = inode_hard } in
    rw (← same_ok {x = SetQuota kind id limits} (none_left e))
    (record {
      fits = (id_fits, record { block_soft = fits_bs; block_hard = fits_bh; inode_soft = fits_is; inode_hard = fits_ih });
      spelled = λ _ _. rw (is_kind, is_id, is_bs, is_bh, is_is, is_ih) refl;
      old = λ _. kind_fits;
    })
left_read edition verb.SetGrace (b ∷ i ∷ []) call many e =
    next_word any_number NumberValue b refl e λ block is_block block_fits e.
    next_word any_number NumberValue i refl e λ inode is_inode inode_fits e.
    rw (← same_ok {x = SetGrace (record { block = block; inode = inode })} (none_left e))
    (record { fits = (block_fits, inode_fits); spelled = λ _ _. rw (is_block, is_inode) refl; old = λ _ _. refl })
left_read edition verb.Quota (k ∷ i ∷ []) call many e =
    next_word (any_kind edition) KindValue k refl e λ kind is_kind kind_fits e.
    next_word (any_id BadNumber) NumberValue i refl e λ id is_id id_fits e.
    rw (← same_ok {x = Quota kind id} (none_left e)) (record { fits = id_fits; spelled = λ _ _. rw (is_kind, is_id) refl; old = λ _. kind_fits })
left_read edition v arguments call many e = absurd (grind (arith, nat_tests, many))

call_read : (edition : Edition) (v : Verb) (arguments : List (List ℕ)) (call : Call) → call_of edition v arguments ≡ Ok call
    → IsRead edition v arguments call
unfolding call_of
call_read edition v arguments call e =
    left_read edition v arguments call (kept (takes v (length arguments)) _ WordCount call e).0 (all_left edition v arguments call e)

-- a call that was read has parts that their types can hold
pub call_fits : (words : List (List ℕ)) (call : Call) → call_in words ≡ Ok call → IsCall call
unfolding call_in
call_fits [] call e = absurd (cc e)
call_fits (w ∷ arguments) call e = step_found (verb_of w) _ e λ v is_verb e. (call_read Two v arguments call e).fits

-- a verb that a journal may have
journaled_verb_found : (word : List ℕ) (v : Verb) → journaled_verb_of word ≡ Ok v → (verb_text v ≡ word) × (is_fill v ≡ false)
unfolding journaled_verb_of
journaled_verb_found word v e =
    step_found (verb_of word) _ e λ found is e.
    let so = passed (is_fill found) (Ok found) BadVerb v e in
    rw (← same_ok so.1) (verb_found word found is, so.0)

journaled_call_found : (edition : Edition) (v : Verb) (arguments : List (List ℕ)) (call : Call) → is_fill v ≡ false
    → journaled_call_of edition v arguments ≡ Ok call
    → (call_words call ≡ verb_text v ∷ arguments) × IsCall call
    × (nat_lt (arity v) (length arguments) ≡ false → OnlyInTwo edition (call_names_project call))
unfolding journaled_call_of
journaled_call_found edition v arguments call journaled e =
    step_found (call_of edition v arguments) _ e λ found is e.
    let so = passed (not (in_one_case v arguments)) (Ok found) BadHex call e in
    let read = call_read edition v arguments found is in
    rw (← same_ok so.1) (read.spelled journaled (not_false (in_one_case v arguments) so.0), read.fits, read.old)

take_first : (n : ℕ) (w : List ℕ) (ws : List (List ℕ)) → take (1 + n) (w ∷ ws) ≡ w ∷ take n ws
take_first n w ws = let more : 1 + n ≡ suc n = omega arith in rw more refl

-- in edition 1 no words behind a verb name a project
no_project : (v : Verb) (behind : List (List ℕ)) → has_project One v behind ≡ false
no_project verb.Chown (p ∷ u ∷ g ∷ fourth ∷ others) = refl
no_project v behind = refl

-- so there are no more than the verb takes without one
few_taken : (edition : Edition) (v : Verb) (behind : List (List ℕ)) → edition ≡ One
    → nat_lt (arity v) (length (take (argument_count edition v behind) behind)) ≡ false
few_taken One v behind old =
    let taken = length-take (arity v) behind in
    rw (no_project v behind) (le-ltb _ _ (grind (arith, taken)))
few_taken Two v behind old = absurd (cc old)

-- the words that a call was read from are those that it is spelled in
pub journaled_found : (edition : Edition) (words : List (List ℕ)) (called : Call × ℕ) → journaled_call_in edition words ≡ Ok called
    → (call_words called.0 ≡ take called.1 words) × IsCall called.0 × OnlyInTwo edition (call_names_project called.0)
unfolding journaled_call_in counted_call_of
journaled_found edition [] called e = absurd (cc e)
journaled_found edition (w ∷ behind) called e =
    step_found (journaled_verb_of w) _ e λ v is_verb e.
    let count : ℕ = argument_count edition v behind in
    let so = journaled_verb_found w v is_verb in
    let enough = passed (nat_lt (length behind) count) _ WordCount called e in
    step_found (journaled_call_of edition v (take count behind)) _ enough.1 λ call is_call e.
    let spelled = journaled_call_found edition v (take count behind) call so.1 is_call in
    rw (← same_ok e) (
      spelled.0 ∙ rw (so.0, take_first count w behind) refl,
      spelled.1,
      λ old. spelled.2 (few_taken edition v behind old) old,
    )
