-- What `commit` will do of a call that is ready, and when it may.
use Rattle.std.specs.Prelude.{◌≡◌, Bool, true, false}
use Rattle.qrules.specs.Range.{are_graces_in_range}
use Rattle.qplain.specs.declared.call.Call.{Call}
use Rattle.qplain.specs.declared.call.Call.TheVariants.{Create as CreateCall, Mkdir as MkdirCall, Write as WriteCall}
use Rattle.qplain.specs.declared.call.Call.TheVariants.{Truncate as TruncateCall, Read, Stat, Link as LinkCall}
use Rattle.qplain.specs.declared.call.Call.TheVariants.{Unlink as UnlinkCall, Rmdir as RmdirCall}
use Rattle.qplain.specs.declared.call.Call.TheVariants.{Rename as RenameCall, Chown as ChownCall, SetQuota, SetGrace}
use Rattle.qplain.specs.declared.call.Call.TheVariants.{Quota}
use Rattle.qplain.specs.declared.refusal.Refusal.{Refusal}
use Rattle.qplain.specs.declared.reply.Reply.{Reply}
use Rattle.qplain.specs.declared.reply.Reply.TheVariants.{Refused}
use Rattle.qplain.specs.State.{State}
use Rattle.qstore_change.specs.Changes.{CanChange, changed}
use Rattle.qstore_accounts.specs.Bills.{IsBillFor, settled}
use Rattle.qstore_accounts.specs.Books.{AreBooksOf, holders_of}
use Rattle.qstore.specs.declared.plan.Plan.{Plan}
use Rattle.qstore.specs.declared.plan.Plan.TheVariants.{Nothing, Change, Limits, SetGraces}
use Rattle.qstore.specs.Stored.{IsStorable, Stored}

-- the reply is a refusal
abbrev pub IsRefused : Reply → Type 0
IsRefused reply = (r : Refusal) × reply ≡ Refused r

-- the call needs no memory, whatever it is answered: truncate, stat, chown, setquota, setgrace and quota
abbrev pub wants_no_memory : Call → Bool
wants_no_memory (CreateCall path) = false
wants_no_memory (MkdirCall path) = false
wants_no_memory (WriteCall path off bytes) = false
wants_no_memory (TruncateCall path size) = true
wants_no_memory (Read path off len) = false
wants_no_memory (Stat path) = true
wants_no_memory (LinkCall from to) = false
wants_no_memory (UnlinkCall path) = false
wants_no_memory (RmdirCall path) = false
wants_no_memory (RenameCall from to) = false
wants_no_memory (ChownCall path uid gid project) = true
wants_no_memory (SetQuota kind id limits) = true
wants_no_memory (SetGrace graces) = true
wants_no_memory (Quota kind id) = true

-- the state with the holders that the store's books have after its bill
abbrev pub billed : Stored → State → State
billed s S = record S { holders = holders_of (settled s.bill s.books) }

-- the state that a plan leaves
abbrev pub effect : Stored → Plan → State
effect s Nothing = s.state
effect s (Change change) = billed s (changed s.state change)
effect s Limits = billed s s.state
effect s (SetGraces graces) = record s.state { graces = graces }

-- the state that what is ready leaves
abbrev pub committed : Stored → State
committed s = effect s s.plan

-- the store's bill is for its books, which after it are those of this state with the bill's holders
pub record CanSettle (s : Stored) (S : State) : Type 0 where
  pub placed : IsBillFor s.books s.bill
  pub books : AreBooksOf (billed s S) (settled s.bill s.books)

-- the store is as the plan needs it
abbrev pub CanCarryOut : Stored → Plan → Type 0
CanCarryOut s Nothing = Unit {0}
CanCarryOut s (Change change) =
    CanChange s.state s.room change × CanSettle s (changed s.state change)
CanCarryOut s Limits = CanSettle s s.state
CanCarryOut s (SetGraces graces) = are_graces_in_range graces ≡ true

-- the store is as `ready` left it, as far as what is ready needs
pub record IsReady (s : Stored) : Type 0 where
  pub can : CanCarryOut s s.plan
  pub sound : IsStorable (committed s)
