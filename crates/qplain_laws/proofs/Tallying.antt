-- What journals leave, what their entries tell, and their tallies.
use Rattle.std.proofs.Common.{◌≡◌, ℕ, ◌+◌, ◌-◌, ◌*◌, ◌≤◌, List, [], ◌∷◌, ◌++◌, length, length-append, All, Option, Some, None, refl, sym, ap, subst, ◌∙◌, tests, arith}
use Rattle.std.proofs.Math.Nat.{mul_comm}
use Rattle.std.proofs.lemmas.List.Elements.{All-nil, All-cons}
use Rattle.std.proofs.lemmas.List.Sums.{sum_by-cons, sum_by-le, sum_by_push}
use Rattle.qrules.specs.Sort.{Inodes, Blocks}
use Rattle.qplain.specs.declared.bounds.TheConstants.{MAX_ENTRIES}
use Rattle.qplain.specs.declared.call.Call.{Call}
use Rattle.qplain.specs.declared.change.Change.{Change}
use Rattle.qplain.specs.declared.entry.Entry.{Entry}
use Rattle.qplain.specs.declared.refusal.Refusal.{Refusal}
use Rattle.qplain.specs.declared.setup.TheConstants.{MAX_BLOCKS, MAX_INODES}
use Rattle.qplain.specs.declared.tallies.Tallies.{Tallies}
use Rattle.qplain.specs.Caller.{Caller}
use Rattle.qplain.specs.Setups.{IsLawfulSetup, Setting}
use Rattle.qplain.specs.State.{State, start}
use Rattle.qplain.specs.Use.{total_of}
use Rattle.qplain.specs.Decision.{refusal_between}
use Rattle.qplain.specs.Attempt.{Attempt, Refuse, Answer, Becomes}
use Rattle.qplain.specs.Journal.{CanCount, IsLegal, change_of, counted, play, played, tally_of}
use Rattle.qplain.specs.Calls.{attempt}
use Rattle.qplain.specs.Step.{change_between, settle, settled, step}
use Rattle.qplain_laws.specs.Laws.{IsLawful, KeepsSetup}
use Rattle.qplain_laws.specs.Journals.{ChangesAreSmall, ChangesAreTold, IsBalancedFrom, IsTallyOf, IsWithin, JournalsBalance, JournalsStayLawful, StepsAreSmall, TalliesAreSmall, TalliesBalance}
use Rattle.qplain_laws.proofs.Answering.{MayBecome, TellsNone, attempt-none}
use Rattle.qplain_laws.proofs.Kept.{setups_stay}
use Rattle.qplain_laws.proofs.Lawful.{steps_stay_lawful}
use Rattle.qplain_laws.proofs.Settling.{change-none}
use Rattle.qplain_laws.proofs.Start.{ranged, start_is_lawful}

-- ---- the states that journals leave

-- whatever is played from a lawful state, a lawful state is left
pub lawful-played : (S : State) (journal : List Entry) → IsLawful S → IsLawful (play S journal)
lawful-played S [] lawful = lawful
lawful-played S (e ∷ rest) lawful = lawful-played (played S e).0 rest (steps_stay_lawful S e.cred e.moment e.call lawful)

-- and the bounds are the same
pub size-played : (S : State) (journal : List Entry) → ((play S journal).size ≡ S.size) × ((play S journal).most_inodes ≡ S.most_inodes)
size-played S [] = (refl, refl)
size-played S (e ∷ rest) =
    let later = size-played (played S e).0 rest in
    let kept : KeepsSetup S (played S e).0 = setups_stay S e.cred e.moment e.call in
    (later.0 ∙ kept.size, later.1 ∙ kept.most_inodes)

pub journals_stay_lawful : JournalsStayLawful
journals_stay_lawful s journal setup = lawful-played (start s) journal (start_is_lawful s setup)

-- ---- what a step tells

settled-told : (S new : State) (number moment : ℕ) (o : Option Refusal)
    → change_of (settled S new number moment o).1 ≡ change_between S (settled S new number moment o).0
settled-told S new number moment (Some r) = sym (change-none S S.holders S.graces)
settled-told S new number moment None = refl

settle-told : (S : State) (cred : Caller) (moment : ℕ) (P : State → Type 0) (a : Attempt) → TellsNone P a
    → change_of (settle S cred moment a).1 ≡ change_between S (settle S cred moment a).0
settle-told S cred moment P (Refuse r) none = sym (change-none S S.holders S.graces)
settle-told S cred moment P (Answer reply) none = none.none.0 ∙ sym (change-none S S.holders S.graces)
settle-told S cred moment P (Becomes new number) none = settled-told S new number moment (refusal_between S new cred moment)

pub changes_are_told : ChangesAreTold
changes_are_told S cred moment call = settle-told S cred moment (MayBecome S call) (attempt S cred moment call) (attempt-none S cred moment call)

-- the rise and the fall of totals within the bounds are within them
within-bounds : (old new : State) (blocks inodes : ℕ) → total_of old Blocks ≤ blocks → total_of new Blocks ≤ blocks → total_of old Inodes ≤ inodes
    → total_of new Inodes ≤ inodes → IsWithin blocks inodes (change_between old new)
within-bounds old new blocks inodes old_blocks new_blocks old_inodes new_inodes = record {
  blocks_charged = omega (arith, new_blocks);
  blocks_released = omega (arith, old_blocks);
  inodes_charged = omega (arith, new_inodes);
  inodes_released = omega (arith, old_inodes);
}

pub steps_are_small : StepsAreSmall
steps_are_small S cred moment call lawful =
    let new : State = (step S cred moment call).0 in
    let kept : KeepsSetup S new = setups_stay S cred moment call in
    let after : IsLawful new = steps_stay_lawful S cred moment call lawful in
    let blocks : total_of new Blocks ≤ S.size = subst (λ n. total_of new Blocks ≤ n) kept.size after.blocks_fit in
    let inodes : total_of new Inodes ≤ S.most_inodes = subst (λ n. total_of new Inodes ≤ n) kept.most_inodes after.inodes_fit in
    subst (IsWithin S.size S.most_inodes) (sym (changes_are_told S cred moment call))
    (within-bounds S new S.size S.most_inodes lawful.blocks_fit blocks lawful.inodes_fit inodes)

-- ---- what legal journals tell

-- what is within smaller bounds is within larger ones
pub within-larger : (blocks inodes more_blocks more_inodes : ℕ) (c : Change) → blocks ≤ more_blocks → inodes ≤ more_inodes → IsWithin blocks inodes c
    → IsWithin more_blocks more_inodes c
within-larger blocks inodes more_blocks more_inodes c few few_too within = record {
  blocks_charged = omega (arith, few, within.blocks_charged);
  blocks_released = omega (arith, few, within.blocks_released);
  inodes_charged = omega (arith, few_too, within.inodes_charged);
  inodes_released = omega (arith, few_too, within.inodes_released);
}

-- no entry tells of more than the bounds of the state from which the journal is legal
pub changes-within : (S : State) (journal : List Entry) → IsLawful S → IsLegal S journal
    → All (λ e. IsWithin S.size S.most_inodes (change_of e.reply)) journal
changes-within S [] lawful legal = All-nil (λ (e : Entry). IsWithin S.size S.most_inodes (change_of e.reply))
changes-within S (e ∷ rest) lawful legal =
    let kept : KeepsSetup S (played S e).0 = setups_stay S e.cred e.moment e.call in
    let small : IsWithin S.size S.most_inodes (change_of (played S e).1) = steps_are_small S e.cred e.moment e.call lawful in
    let here : IsWithin S.size S.most_inodes (change_of e.reply) =
    subst (λ reply. IsWithin S.size S.most_inodes (change_of reply)) (sym legal.0) small in
    let later : All (λ x. IsWithin (played S e).0.size (played S e).0.most_inodes (change_of x.reply)) rest =
    changes-within (played S e).0 rest (steps_stay_lawful S e.cred e.moment e.call lawful) legal.1 in
    All-cons (λ x. IsWithin S.size S.most_inodes (change_of x.reply)) e rest here
    (subst (λ n. All (λ x. IsWithin n S.most_inodes (change_of x.reply)) rest) kept.size
    (subst (λ n. All (λ x. IsWithin (played S e).0.size n (change_of x.reply)) rest) kept.most_inodes later))

-- the bounds of a lawful setup are bounds that a setup may have
pub setup-small : (s : Setting) → IsLawfulSetup s → (s.blocks ≤ MAX_BLOCKS) × (s.inodes ≤ MAX_INODES)
setup-small s setup =
    let are = ranged s setup in
    (grind (arith, tests, are.blocks), grind (arith, tests, are.inodes))

pub changes_are_small : ChangesAreSmall
changes_are_small s journal setup legal =
    let bounds = setup-small s setup in
    let own : All (λ e. IsWithin s.blocks s.inodes (change_of e.reply)) journal = changes-within (start s) journal (start_is_lawful s setup) legal in
    record {
      of_setup = own;
      of_any = λ k d below. within-larger s.blocks s.inodes MAX_BLOCKS MAX_INODES _ bounds.0 bounds.1 (own k d below);
    }

-- ---- the tallies

-- the tally of entries that are each within the bounds
pub tally-within : (blocks inodes : ℕ) (journal : List Entry) → All (λ e. IsWithin blocks inodes (change_of e.reply)) journal
    → IsTallyOf blocks inodes (length journal) (tally_of journal)
tally-within blocks inodes journal each =
    let charged = sum_by-le (λ (e : Entry). (change_of e.reply).blocks_charged) blocks journal (λ k d below. (each k d below).blocks_charged) in
    let released = sum_by-le (λ (e : Entry). (change_of e.reply).blocks_released) blocks journal (λ k d below. (each k d below).blocks_released) in
    let made = sum_by-le (λ (e : Entry). (change_of e.reply).inodes_charged) inodes journal (λ k d below. (each k d below).inodes_charged) in
    let gone = sum_by-le (λ (e : Entry). (change_of e.reply).inodes_released) inodes journal (λ k d below. (each k d below).inodes_released) in
    record {
      blocks_charged = turned _ blocks (length journal) charged;
      blocks_released = turned _ blocks (length journal) released;
      inodes_charged = turned _ inodes (length journal) made;
      inodes_released = turned _ inodes (length journal) gone;
      calls = refl;
    }
  where
    turned : (n a b : ℕ) → n ≤ b * a → n ≤ a * b
    turned n a b h = subst (λ m. n ≤ m) (mul_comm b a) h

pub tallies_are_small : TalliesAreSmall
tallies_are_small s journal setup legal = tally-within MAX_BLOCKS MAX_INODES journal (changes_are_small s journal setup legal).of_any

-- the tally of a journal that goes on with one more entry
pub tally-one_more : (journal : List Entry) (e : Entry)
    → tally_of (journal ++ e ∷ []) ≡ counted (tally_of journal) (change_of e.reply)
tally-one_more journal e = λ i. record {
  blocks_charged = sum_by_push (λ (x : Entry). (change_of x.reply).blocks_charged) journal e i;
  blocks_released = sum_by_push (λ (x : Entry). (change_of x.reply).blocks_released) journal e i;
  inodes_charged = sum_by_push (λ (x : Entry). (change_of x.reply).inodes_charged) journal e i;
  inodes_released = sum_by_push (λ (x : Entry). (change_of x.reply).inodes_released) journal e i;
  calls = length-append journal (e ∷ []) i;
}

-- such a tally takes such a change
added : (t : Tallies) (c : Change) (calls : ℕ) → calls ≤ MAX_ENTRIES → IsTallyOf MAX_BLOCKS MAX_INODES calls t → IsWithin MAX_BLOCKS MAX_INODES c → CanCount t c
added t c calls few of_t of_c = record {
  blocks_charged = omega (arith, few, of_t.blocks_charged, of_c.blocks_charged);
  blocks_released = omega (arith, few, of_t.blocks_released, of_c.blocks_released);
  inodes_charged = omega (arith, few, of_t.inodes_charged, of_c.inodes_charged);
  inodes_released = omega (arith, few, of_t.inodes_released, of_c.inodes_released);
  calls = omega (arith, few, of_t.calls);
}

-- so does that of a legal journal of a store within the bounds of setups, and of its next call
pub room-after : (S : State) (journal : List Entry) (cred : Caller) (moment : ℕ) (call : Call) → IsLawful S → S.size ≤ MAX_BLOCKS
    → S.most_inodes ≤ MAX_INODES → IsLegal S journal → length journal ≤ MAX_ENTRIES
    → CanCount (tally_of journal) (change_of (step (play S journal) cred moment call).1)
room-after S journal cred moment call lawful few_blocks few_inodes legal few =
    let after : State = play S journal in
    let sizes = size-played S journal in
    let next : IsWithin after.size after.most_inodes (change_of (step after cred moment call).1) =
    steps_are_small after cred moment call (lawful-played S journal lawful) in
    let small : IsTallyOf MAX_BLOCKS MAX_INODES (length journal) (tally_of journal) =
    tally-within MAX_BLOCKS MAX_INODES journal
    (λ k d below. within-larger S.size S.most_inodes MAX_BLOCKS MAX_INODES _ few_blocks few_inodes (changes-within S journal lawful legal k d below)) in
    added (tally_of journal) (change_of (step after cred moment call).1) (length journal) few small
    (within-larger after.size after.most_inodes MAX_BLOCKS MAX_INODES _ (omega (arith, sizes.0, few_blocks)) (omega (arith, sizes.1, few_inodes)) next)

-- so does that of a legal journal from a new store of a lawful setup
pub tallies_have_room : (s : Setting) (journal : List Entry) (cred : Caller) (moment : ℕ) (call : Call) → IsLawfulSetup s
    → IsLegal (start s) journal → length journal ≤ MAX_ENTRIES
    → CanCount (tally_of journal) (change_of (step (play (start s) journal) cred moment call).1)
tallies_have_room s journal cred moment call setup legal few =
    let bounds = setup-small s setup in
    room-after (start s) journal cred moment call (start_is_lawful s setup) bounds.0 bounds.1 legal few

-- ---- what was charged is what was released and what is there

-- the tally of a journal by its first entry
tally-first : (e : Entry) (rest : List Entry) → tally_of (e ∷ rest) ≡ record {
  blocks_charged = (change_of e.reply).blocks_charged + (tally_of rest).blocks_charged;
  blocks_released = (change_of e.reply).blocks_released + (tally_of rest).blocks_released;
  inodes_charged = (change_of e.reply).inodes_charged + (tally_of rest).inodes_charged;
  inodes_released = (change_of e.reply).inodes_released + (tally_of rest).inodes_released;
  calls = length (e ∷ rest);
}
tally-first e rest = λ i. record {
  blocks_charged = sum_by-cons (λ (x : Entry). (change_of x.reply).blocks_charged) e rest i;
  blocks_released = sum_by-cons (λ (x : Entry). (change_of x.reply).blocks_released) e rest i;
  inodes_charged = sum_by-cons (λ (x : Entry). (change_of x.reply).inodes_charged) e rest i;
  inodes_released = sum_by-cons (λ (x : Entry). (change_of x.reply).inodes_released) e rest i;
  calls = length (e ∷ rest);
}

pub journals_balance : JournalsBalance
journals_balance S [] legal = record { blocks = refl; inodes = refl }
journals_balance S (e ∷ rest) legal =
    let told : change_of e.reply ≡ change_between S (played S e).0 = ap change_of legal.0 ∙ changes_are_told S e.cred e.moment e.call in
    let later : IsBalancedFrom (played S e).0 (play S (e ∷ rest)) (tally_of rest) = journals_balance (played S e).0 rest legal.1 in
    subst (IsBalancedFrom S (play S (e ∷ rest))) (sym (tally-first e rest)) (record {
      blocks = turned _ _ _ _ _ _ _ (ap (λ (c : Change). c.blocks_charged) told) (ap (λ (c : Change). c.blocks_released) told) later.blocks;
      inodes = turned _ _ _ _ _ _ _ (ap (λ (c : Change). c.inodes_charged) told) (ap (λ (c : Change). c.inodes_released) told) later.inodes;
    })
  where
    turned : (old mid new up down ups downs : ℕ) → up ≡ mid - old → down ≡ old - mid → ups + mid ≡ downs + new → up + ups + old ≡ down + downs + new
    turned old mid new up down ups downs rise fall later = omega (arith, rise, fall, later)

pub tallies_balance : TalliesBalance
tallies_balance s journal legal =
    let moves = journals_balance (start s) journal legal in
    record { blocks = omega (arith, moves.blocks); inodes = moves.inodes }
