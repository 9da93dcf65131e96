-- What a decision comes to: once for all calls.
use Rattle.std.proofs.Common.{◌≡◌, ℕ, ◌+◌, ◌-◌, ◌^◌, ◌≤◌, ◌==◌, true, not, cond, List, Option, Some, Result, Ok, Err, IfOk, refl, sym, ap, subst, ◌∙◌, arith}
use Rattle.std.specs.declared.alloc.AllocError.{AllocError}
use Rattle.std.specs.Result.{IsErr, IsOk}
use Rattle.qrules.specs.declared.kind.Kind.TheVariants.{User}
use Rattle.qrules.specs.Sort.{Inodes, Blocks}
use Rattle.qrules.specs.declared.kind.Kind.{Kind}
use Rattle.qrules.specs.declared.limits.Limits.{Limits}
use Rattle.qblocks.specs.File.{empty_file}
use Rattle.qplain.specs.declared.refusal.Refusal.TheVariants.{EPERM, ESRCH}
use Rattle.qplain.specs.Known.{is_declared}
use Rattle.qplain.specs.Quotas.{set_quota, with_limits_of}
use Rattle.qplain.specs.declared.change.Change.{Change as TotalChange}
use Rattle.qplain.specs.declared.refusal.Refusal.{Refusal}
use Rattle.qplain.specs.declared.reply.Reply.{Reply}
use Rattle.qplain.specs.declared.reply.Reply.TheVariants.{Bytes, Done, Refused}
use Rattle.qplain.specs.Attempt.{Answer, Attempt, Becomes, Refuse, no_change}
use Rattle.qplain.specs.Caller.{Caller}
use Rattle.qplain.specs.Decision.{ends_after}
use Rattle.qplain.specs.State.{Inode, State, inode_at}
use Rattle.qplain.specs.Step.{change_between, settle}
use Rattle.qplain.specs.Use.{weight}
use Rattle.qplain_laws.specs.Laws.{IsLawful}
use Rattle.qplain_laws.specs.Replaces.{Replaces, weight_of}
use Rattle.qplain_laws.proofs.Replacing.{Replaces-changed, change-after}
use Rattle.qplain_laws.proofs.Settling.{settle-granted, settle-refused, settle-with_limits_of}
use Rattle.qstore_accounts.specs.declared.bill.Bill.{Bill}
use Rattle.qstore_accounts.specs.declared.claim.Claim.{Claim}
use Rattle.qstore_accounts.specs.Bills.{IsBillFor, settled}
use Rattle.qstore_accounts.specs.Books.{AreBooksOf, Books, holders_of}
use Rattle.qstore_accounts.specs.Replacements.{IsClaimed, IsReplacement}
use Rattle.qstore_accounts.proofs.Booked.{claim-weight}
use Rattle.qstore_change.specs.declared.tree_change.TreeChange.{TreeChange}
use Rattle.qstore_change.specs.Changes.{CanChange, changed}
use Rattle.qstore.specs.declared.request.Exchange.{Exchange}
use Rattle.qstore.specs.declared.plan.Plan.{Plan}
use Rattle.qstore.specs.declared.plan.Plan.TheVariants.{Nothing, Change, Limits as SetLimits, SetGraces}
use Rattle.qstore.specs.declared.request.Request.{Request}
use Rattle.qstore.specs.Decided.{IsAsked, IsBilled, IsDecision, IsPlanned, IsUnbilled}
use Rattle.qstore.specs.Ready.{CanCarryOut, IsRefused, billed, effect}
use Rattle.qstore.specs.Requests.{IsConsistent}
use Rattle.qstore.specs.Stored.{IsSameStore, Stored}
use Rattle.qstore.specs.Told.{total_change}
use Rattle.qstore.proofs.Listed.{ok_weaker}

-- ---- claims

-- a plain result in which one inode stands where another stood is one that a bill may be asked for
pub asked-for : (s : Stored) → IsConsistent s → (from to : Option Claim) (given : ℕ) (S1 : State) (f t : Option Inode) → Replaces s.state S1 f t
    → S1.next ≡ s.state.next + given → IsClaimed s.books from f → IsClaimed s.books to t → weight_of Blocks t ≤ 2 ^ 32
    → IsAsked s (record { from = from; to = to }) given S1
asked-for s whole from to given S1 f t replaces next lost gained few = record {
  before = f;
  after = t;
  replaced = record {
    lawful = whole.sound.lawful;
    books = whole.books;
    replaces = replaces;
    lost = lost;
    gained = gained;
    few = few;
  };
  next = next;
}

-- ---- what is told

-- the change that is told is the one between the states
pub told-change : (b : Books) (exchange : Exchange) (S S1 : State) (f t : Option Inode)
    → IsReplacement b exchange.from exchange.to S S1 f t → total_change exchange ≡ change_between S S1
told-change b exchange S S1 f t r =
    let lost_blocks = claim-weight b.users exchange.from f Blocks (r.lost User) in
    let lost_inodes = claim-weight b.users exchange.from f Inodes (r.lost User) in
    let blocks = claim-weight b.users exchange.to t Blocks (r.gained User) in
    let inodes = claim-weight b.users exchange.to t Inodes (r.gained User) in
    (λ i. ◌≡◌-at (blocks i) (lost_blocks i) (inodes i) (lost_inodes i)) ∙ sym (change-after S S1 f t r.replaces)
  where
    ◌≡◌-at : (gained_blocks less_blocks gained_inodes less_inodes : ℕ) → TotalChange
    ◌≡◌-at gained_blocks less_blocks gained_inodes less_inodes = record {
      blocks_charged = gained_blocks - less_blocks;
      blocks_released = less_blocks - gained_blocks;
      inodes_charged = gained_inodes - less_inodes;
      inodes_released = less_inodes - gained_inodes;
    }

-- ---- decisions

-- the same store
pub same-store : (s : Stored) → IsSameStore s s
same-store s = record { state = refl; books = refl }

-- what is done is no refusal
done-unrefused : {A : Type 0} (number : ℕ) (change : TotalChange) (reply : Reply) → reply ≡ Done number change → IsRefused reply → A
done-unrefused number change reply is refused = let same = sym is ∙ refused.1 in cc

module _ (old new : Stored) (same : IsSameStore old new) (request : Request) (attempt : Attempt) where
  -- what the request comes to
  abbrev settled_so : State × Reply
  settled_so = settle old.state request.cred.now request.moment attempt

  -- a plan and a reply that come to that are a decision
  pub decision-ready : (plan : Plan) (reply : Reply) → settled_so ≡ (effect new plan, reply) → CanCarryOut new plan
      → IsPlanned old new request attempt plan (Ok reply)
  decision-ready plan reply is can =
      record { same = same; decided = record { step = sym is; can = can }; refused_first = λ refused. refl }

  -- an answer decides a request that is answered so
  pub decision-answered : (reply answer : Reply) → settled_so ≡ (old.state, answer) → reply ≡ answer
      → IsPlanned old new request attempt Nothing (Ok reply)
  decision-answered reply answer is made = decision-ready Nothing reply (is ∙ (λ i. (sym same.state i, sym made i))) tt

  -- a refusal decides an attempt that is refused so
  pub decision-refused : (reply : Reply) (refusal : Refusal) → attempt ≡ Refuse refusal → reply ≡ Refused refusal
      → IsPlanned old new request attempt Nothing (Ok reply)
  decision-refused reply refusal is made =
      decision-answered reply (Refused refusal) (ap (settle old.state request.cred.now request.moment) is) made

  module _ (number given : ℕ) (exchange : Exchange) (S1 : State) (asked : IsAsked old exchange given S1) (becomes : attempt ≡ Becomes S1 number) where
    -- a bill that is refused decides the plain result
    pub decision-unbilled : (reply : Reply) (refusal : Refusal) → IsUnbilled old request exchange given refusal
        → reply ≡ Refused refusal → IsPlanned old new request attempt Nothing (Ok reply)
    decision-unbilled reply refusal is made =
        decision-answered reply (Refused refusal)
        (ap (settle old.state request.cred.now request.moment) becomes
        ∙ settle-refused old.state S1 request.cred.now request.moment number refusal (is S1 asked)) made

    -- where one is granted, it is no refusal
    is-done : (bill : Bill) → IsBilled old bill request exchange given
        → settled_so ≡ (ends_after S1 request.moment, Done number (change_between old.state S1))
    is-done bill billed_so =
        ap (settle old.state request.cred.now request.moment) becomes
        ∙ settle-granted old.state S1 request.cred.now request.moment number (billed_so.granted S1 asked).0

    -- so memory may be wanting then
    pub decision-unmade : {plan : Plan} (bill : Bill) (result : Result Reply AllocError) → IsBilled old bill request exchange given → IsErr result
        → IsPlanned old new request attempt plan result
    decision-unmade bill (Ok reply) billed_so wanting = cc
    decision-unmade bill (Err fault) billed_so wanting = record {
      same = same;
      decided = tt;
      refused_first =
          done-unrefused number (change_between old.state S1) settled_so.1 (ap (λ (t : State × Reply). t.1) (is-done bill billed_so));
    }

    -- and a bill that is granted decides it
    pub decision-billed : (change : TreeChange) (reply : Reply) → IsBilled old new.bill request exchange given
        → changed old.state change ≡ S1 → CanChange new.state new.room change → reply ≡ Done number (total_change exchange)
        → IsPlanned old new request attempt (Change change) (Ok reply)
    decision-billed change reply billed_so made can is =
        decision-ready (Change change) reply
        (is-done new.bill billed_so
        ∙ (λ i. (sym there i, Done number (sym (told-change old.books exchange old.state S1 asked.before asked.after asked.replaced) i)))
        ∙ (λ i. (billed new (changed new.state change), sym is i)))
        (can, record { placed = subst (λ (b : Books). IsBillFor b new.bill) (sym same.books) billed_so.placed; books = books })
      where
        left : AreBooksOf (ends_after S1 request.moment) (settled new.bill old.books)
        left = (billed_so.granted S1 asked).1

        there : billed new (changed new.state change) ≡ ends_after S1 request.moment
        there =
            (λ i. record (changed (same.state i) change) {
              holders = holders_of (settled new.bill (same.books i));
            })
            ∙ (λ i. record (made i) { holders = sym left.holders i })

        books : AreBooksOf (billed new (changed new.state change)) (settled new.bill new.books)
        books = subst (λ (S : State). AreBooksOf S (settled new.bill new.books)) (sym there)
            (subst (λ (b : Books). AreBooksOf (ends_after S1 request.moment) (settled new.bill b)) (sym same.books) left)

-- ---- decisions that the store keeps

-- what a plan leaves does not hang on what the store keeps
effect-kept : (s : Stored) (kept plan : Plan) → effect (record s { plan = kept }) plan ≡ effect s plan
effect-kept s kept Nothing = refl
effect-kept s kept (Change change) = refl
effect-kept s kept SetLimits = refl
effect-kept s kept (SetGraces graces) = refl

-- nor whether it can carry it out
can-kept : (s : Stored) (kept plan : Plan) → CanCarryOut s plan → CanCarryOut (record s { plan = kept }) plan
can-kept s kept Nothing can = tt
can-kept s kept (Change change) can = (can.0, record { placed = can.1.placed; books = can.1.books })
can-kept s kept SetLimits can = record { placed = can.placed; books = can.books }
can-kept s kept (SetGraces graces) can = can

-- so a plan that is kept makes a decision of what was planned
pub kept : {old mid new : Stored} {request : Request} {attempt : Attempt} (plan : Plan) (result : Result Reply AllocError)
    → new ≡ record mid { plan = plan } → IsPlanned old mid request attempt plan result → IsDecision old new request attempt result
kept {old} {mid} {new} {request} {attempt} plan result is planned =
    subst (λ (v : Stored). IsPlanned old v request attempt v.plan result) (sym is) (record {
      same = record { state = planned.same.state; books = planned.same.books };
      decided = ok_weaker result _ _ planned.decided (λ reply decided. record {
        step = (λ i. (effect-kept mid plan plan i, reply)) ∙ decided.step;
        can = can-kept mid plan plan decided.can;
      });
      refused_first = planned.refused_first;
    })

-- a refusal of a store that is as it was
pub refused-here : (s new : Stored) (request : Request) (attempt : Attempt) (reply : Reply) (refusal : Refusal) → attempt ≡ Refuse refusal
    → new ≡ record s { plan = Nothing } → reply ≡ Refused refusal → IsDecision s new request attempt (Ok reply)
refused-here s new request attempt reply refusal is none made =
    kept Nothing (Ok reply) none (decision-refused s s (same-store s) request attempt reply refusal is made)

-- and an answer
pub answered-here : (s new : Stored) (request : Request) (attempt : Attempt) (reply : Reply)
    → settle s.state request.cred.now request.moment attempt ≡ (s.state, reply) → new ≡ record s { plan = Nothing }
    → IsDecision s new request attempt (Ok reply)
answered-here s new request attempt reply is none =
    kept Nothing (Ok reply) none (decision-answered s s (same-store s) request attempt reply reply is refl)

-- and what is looked up, where memory may be wanting
pub looked-up : (s new : Stored) (request : Request) (attempt : Attempt) (result : Result Reply AllocError) → new ≡ record s { plan = Nothing }
    → IfOk result (λ reply. (s.state, reply) ≡ settle s.state request.cred.now request.moment attempt)
    → (IsRefused (settle s.state request.cred.now request.moment attempt).1 → IsOk result) → IsDecision s new request attempt result
looked-up s new request attempt result none told first =
    kept Nothing result none (record {
      same = same-store s;
      decided = ok_weaker result _ _ told (λ reply is. record { step = is; can = tt });
      refused_first = first;
    })

-- a decision along an equal attempt
pub decision-along : (old new : Stored) (request : Request) (attempt other : Attempt) (result : Result Reply AllocError) → attempt ≡ other
    → IsDecision old new request other result → IsDecision old new request attempt result
decision-along old new request attempt other result same is = subst (λ a. IsDecision old new request a result) (sym same) is

-- what an inode that is there weighs is within the size
pub weight-fits : (S : State) (number : ℕ) (inode : Inode) → inode_at S number ≡ Some inode → IsLawful S → weight Blocks inode ≤ S.size
weight-fits S number inode there lawful =
    let sum = (Replaces-changed S number inode (record inode { file = empty_file }) there).totals Blocks in
    let fits = lawful.blocks_fit in
    omega (arith, sum, fits)

-- an attempt that is answered with bytes is no refusal
pub bytes-unrefused : {A : Type 0} (S : State) (cred : Caller) (moment : ℕ) (attempt : Attempt) (bytes : List ℕ) → attempt ≡ Answer (Bytes bytes)
    → IsRefused (settle S cred moment attempt).1 → A
bytes-unrefused S cred moment attempt bytes is refused =
    let told = ap (λ (t : State × Reply). t.1) (ap (settle S cred moment) is) in
    let same : Bytes bytes ≡ Refused refused.0 = sym told ∙ refused.1 in
    cc

-- new limits that the superuser sets of a declared principal
pub decision-limits : (old new : Stored) → IsSameStore old new → (request : Request) (kind : Kind) (id : ℕ) (limits : Limits)
    → IsLawful old.state → (request.cred.now.uid == 0) ≡ true → is_declared old.state kind id ≡ true
    → AreBooksOf (ends_after (with_limits_of old.state kind id limits) request.moment) (settled new.bill old.books) → IsBillFor old.books new.bill
    → IsPlanned old new request (set_quota old.state request.cred.now kind id limits) SetLimits (Ok (Done 0 no_change))
decision-limits old new same request kind id limits lawful super declared books placed =
    decision-ready old new same request (set_quota old.state request.cred.now kind id limits) SetLimits (Done 0 no_change)
    ((λ i. settle old.state request.cred.now request.moment
    (cond (not (super i)) (Refuse EPERM)
    (cond (not (declared i)) (Refuse ESRCH) (Becomes (with_limits_of old.state kind id limits) 0))))
    ∙ settle-with_limits_of old.state kind id limits request.cred.now request.moment lawful.blocks_fit lawful.inodes_fit lawful.next_fits
    ∙ (λ i. (sym left i, Done 0 no_change)))
    (record {
      placed = subst (λ (b : Books). IsBillFor b new.bill) (sym same.books) placed;
      books = subst (λ (S : State). AreBooksOf S (settled new.bill new.books)) (sym left)
          (subst (λ (b : Books). AreBooksOf (ends_after (with_limits_of old.state kind id limits) request.moment) (settled new.bill b)) (sym same.books)
          books);
    })
  where
    left : billed new new.state ≡ ends_after (with_limits_of old.state kind id limits) request.moment
    left =
        (λ i. record (same.state i) {
          holders = holders_of (settled new.bill (same.books i));
        })
        ∙ (λ i. record old.state { holders = sym books.holders i })
