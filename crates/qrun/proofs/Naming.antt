-- The threads that faults name.
use Rattle.std.proofs.Common.{◌≡◌, ◌<◌, ◌≤◌, ℕ, ◌+◌, ◌-◌, ◌==◌, ◌∙◌, List, if◌then◌else◌, Bool, true, false, Result, Ok, Err, IfErr, IfOk, IfSome, None, Some, ap, sym, subst, arith}
use Rattle.std.specs.Result.{IsErrAnd}
use Rattle.qplain.specs.Setups.{Setting}
use Rattle.qshare.specs.Seats.{Seated, new_seat, seats_of}
use Rattle.qrun.specs.declared.run_fault.RunFault.{RunFault}
use Rattle.qrun.specs.declared.run_fault.RunFault.TheVariants.{Memory, Mismatch, NoReader, NotStarted}
use Rattle.qrun.specs.Crews.{IsStaff}
use Rattle.qrun.specs.declared.looking.Looking.{Looking}
use Rattle.qrun.specs.declared.looking.Looking.TheVariants.{Nobody, Showing, Watching}
use Rattle.qrun.specs.Looking.{lookers_in}
use Rattle.qrun.specs.RunFaults.{IsFaultOf}
use Rattle.qrun.specs.Serving.{CanServe}
use Rattle.qrun.specs.Watching.{seats_for, watcher_for}

fits_by : (n : ℕ) (b : Bool) → n ≤ (if b then n else n + 1)
fits_by n true = omega arith
fits_by n false = omega arith

-- there is a seat for each script
pub scripts_fit : (n boards : ℕ) → n ≤ seats_for n boards
scripts_fit n boards = fits_by n (boards == 0)

last_by : (n : ℕ) (b : Bool) → IfSome (if b then None else Some (new_seat (n + 1))) (λ s. (0 < s.worker) × (s.worker ≤ (if b then n else n + 1)))
last_by n true = tt
last_by n false = (omega arith, omega arith)

-- and one for the watcher
pub watcher_fits : (n boards : ℕ) → IfSome (watcher_for n boards) (λ s. (0 < s.worker) × (s.worker ≤ seats_for n boards))
watcher_fits n boards = last_by n (boards == 0)

-- the thread of the seat after those that were started
pub names_seat : (n scripts before own : ℕ) → own ≡ before + 1 → before < scripts → scripts ≤ n → IsFaultOf n (NotStarted own)
names_seat n scripts before own next low few = (omega (arith, next), omega (arith, next, low, few))

-- a fault that is handed on
pub names_on : {T : Type 0} (n : ℕ) (r : Result T RunFault) (fault : RunFault) → IsErrAnd r (λ e. e ≡ fault) → IsFaultOf n fault
    → IfErr r (IsFaultOf n)
names_on n (Ok x) fault is names = tt
names_on n (Err e) fault is names = subst (IsFaultOf n) (sym is) names

-- a fault that names no thread
pub fault_of_any : (n : ℕ) (fault : RunFault) → IsFaultOf 0 fault → IsFaultOf n fault
fault_of_any n Memory none = tt
fault_of_any n (NotStarted worker) none = absurd (omega (arith, none.0, none.1))
fault_of_any n (Mismatch place) none = absurd none
fault_of_any n NoReader none = tt

pub names_none : {T : Type 0} (n : ℕ) (r : Result T RunFault) → IfErr r (IsFaultOf 0) → IfErr r (IsFaultOf n)
names_none n (Ok x) none = tt
names_none n (Err e) none = fault_of_any n e none

-- there are seats for the crew and for who looks
pub parts_for : {M : Type 0} (n : ℕ) (looking : Looking M) (parts crew lookers : ℕ) → parts ≡ crew + lookers → crew ≡ n
    → lookers ≡ lookers_in looking → parts ≡ seats_for n (lookers_in looking)
parts_for n Nobody parts crew lookers sum own others = omega (arith, sum, own, others)
parts_for n (Watching calls boards) parts crew lookers sum own others = omega (arith, sum, own, others)
parts_for n (Showing monitor) parts crew lookers sum own others = omega (arith, sum, own, others)

-- a crew beside one who looks from the last seat
pub staff_beside : (setting : Setting) (clients parts : ℕ) (free : List Seated) (last : Seated) → CanServe setting clients 1
    → parts ≡ clients + 1 → free ≡ seats_of (parts - 1) → last ≡ new_seat parts → IsStaff setting clients parts free (Some last)
staff_beside setting clients parts free last can parts_is free_is last_is =
    let workers : parts - 1 ≡ clients = omega (arith, parts_is) in
    record {
      monitors = 1;
      can = can;
      parts_are = parts_is;
      seats_are = free_is ∙ ap seats_of workers;
      observer_is = ap (λ s. Some s) (last_is ∙ ap new_seat parts_is);
    }

-- what holds of what comes at Ok holds of what follows of it
pub if_ok : {T E : Type 0} {P Q : T → Type 0} (r : Result T E) → ((x : T) → P x → Q x) → IfOk r P → IfOk r Q
if_ok (Ok x) follows is = follows x is
if_ok (Err e) follows is = tt
