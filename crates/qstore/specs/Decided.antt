-- What the decision of a call comes to, and, handed on, what it rests on. No public clause cites this module.
use Rattle.std.specs.Prelude.{◌≡◌, ℕ, ◌+◌, ◌≤◌, Option, Some, None, Result, IfOk}
use Rattle.std.specs.Result.{IsOk}
use Rattle.std.specs.declared.alloc.AllocError.{AllocError}
use Rattle.qrules.specs.Sort.{Blocks}
use Rattle.qplain.specs.declared.call.Call.{Call}
use Rattle.qplain.specs.declared.setup.TheConstants.{MAX_BLOCKS}
use Rattle.qplain.specs.Attempt.{Attempt}
use Rattle.qplain.specs.Calls.{attempt_of}
use Rattle.qplain.specs.Decision.{ends_after, refusal_between}
use Rattle.qplain.specs.declared.refusal.Refusal.{Refusal}
use Rattle.qplain.specs.declared.reply.Reply.{Reply}
use Rattle.qplain.specs.State.{Inode, State}
use Rattle.qplain.specs.Step.{settle}
use Rattle.qplain.specs.Use.{weight}
use Rattle.qstore_accounts.specs.declared.bill.Bill.{Bill}
use Rattle.qstore_accounts.specs.declared.claim.Claim.{Claim}
use Rattle.qstore_accounts.specs.Bills.{IsBillFor, settled}
use Rattle.qstore_accounts.specs.Books.{AreBooksOf}
use Rattle.qstore_accounts.specs.Replacements.{IsClaimed, IsReplacement}
use Rattle.qstore.specs.declared.request.Exchange.{Exchange}
use Rattle.qstore.specs.declared.plan.Plan.{Plan}
use Rattle.qstore.specs.declared.request.Request.{Request}
pub use Rattle.qstore.specs.Requests.{CanDecide, IsConsistent, IsFree}
use Rattle.qstore.specs.Ready.{CanCarryOut, IsRefused, effect}
use Rattle.qstore.specs.Stored.{IsSameStore, Stored}

-- what the plan leaves, with the reply, is what the plain machine makes of the attempt, and the store, with the room
-- that was made and the bill that was granted, can carry the plan out
pub record IsDecided (old new : Stored) (request : Request) (attempt : Attempt) (plan : Plan) (reply : Reply)
    : Type 0 where
  pub step : (effect new plan, reply) ≡ settle old.state request.cred.now request.moment attempt
  pub can : CanCarryOut new plan

-- a request that comes to this attempt is decided with this plan: the store is the same, plan and reply are decided,
-- and memory is wanting after all refusals
pub record IsPlanned (old new : Stored) (request : Request) (attempt : Attempt) (plan : Plan)
    (result : Result Reply AllocError) : Type 0 where
  pub same : IsSameStore old new
  pub decided : IfOk result (IsDecided old new request attempt plan)
  pub refused_first : IsRefused (settle old.state request.cred.now request.moment attempt).1 → IsOk result

-- it is decided with the plan that the store keeps
abbrev pub IsDecision : Stored → Stored → Request → Attempt → Result Reply AllocError → Type 0
IsDecision old new request attempt result = IsPlanned old new request attempt new.plan result

-- a request for a call whose arguments are lawful is decided
abbrev pub IsDecisionOf : Stored → Stored → Request → Call → Result Reply AllocError → Type 0
IsDecisionOf old new request call result =
    IsDecision old new request (attempt_of old.state request.cred.now call) result

-- no record and no total changes
abbrev pub no_exchange : Exchange
no_exchange = record { from = None; to = None }

-- all that the inode takes is given up
pub record IsGivenUp (s : Stored) (inode : Inode) (exchange : Exchange) : Type 0 where
  pub claim : Claim
  pub claimed : IsClaimed s.books (Some claim) (Some inode)
  pub is : exchange ≡ record { from = Some claim; to = None }

-- the inode takes N blocks more of the same records
pub record IsStretched (s : Stored) (inode : Inode) (more : ℕ) (exchange : Exchange) : Type 0 where
  pub claim : Claim
  pub claimed : IsClaimed s.books (Some claim) (Some inode)
  pub blocks : claim.weight.blocks ≡ weight Blocks inode
  pub few : claim.weight.blocks ≤ MAX_BLOCKS
  pub is : exchange ≡ record {
    from = Some claim;
    to = Some (record { slots = claim.slots; weight = record { blocks = claim.weight.blocks + more; inodes = 1 } });
  }

-- in the new state the inode of one claim stands in the place of the other's, and N numbers were given
pub record IsAsked (s : Stored) (exchange : Exchange) (given : ℕ) (S1 : State) : Type 0 where
  pub before : Option Inode
  pub after : Option Inode
  pub replaced : IsReplacement s.books exchange.from exchange.to s.state S1 before after
  pub next : S1.next ≡ s.state.next + given

-- the bill is granted: it is for the store's books, which after it are those of every new state that it is asked for
pub record IsBilled (s : Stored) (bill : Bill) (request : Request) (exchange : Exchange) (given : ℕ) : Type 0 where
  pub placed : IsBillFor s.books bill
  pub granted : (S1 : State) → IsAsked s exchange given S1
      → (refusal_between s.state S1 request.cred.now request.moment ≡ None)
      × AreBooksOf (ends_after S1 request.moment) (settled bill s.books)

-- the bill is refused so
abbrev pub IsUnbilled : Stored → Request → Exchange → ℕ → Refusal → Type 0
IsUnbilled s request exchange given refusal =
    (S1 : State) → IsAsked s exchange given S1
    → refusal_between s.state S1 request.cred.now request.moment ≡ Some refusal
