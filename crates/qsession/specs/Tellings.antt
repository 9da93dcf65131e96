-- What a session tells of itself beside its calls: lists in buffers that the caller lends, and values.
use Rattle.std.specs.Prelude.{◌≡◌, ◌≢◌, ℕ, nat_le, if◌then◌else◌, List, length, take, Option, IsSome, Result, Ok, Err}
use Rattle.qsession.specs.declared.fault.Fault.{Fault}
use Rattle.qsession.specs.declared.fault.Fault.TheVariants.{Memory, Room}
use Rattle.qsession.specs.Faults.{fault_code}
use Rattle.qsession.specs.Holdings.{Holding}

-- the number that is told of so many items, of which there is room for so many: 0, or that of too little room
abbrev pub room_code : ℕ → ℕ → ℕ
room_code count room = if nat_le count room then 0 else fault_code Room

-- a list is told in a buffer: at its front, where there is room, and how long it is in any case
pub record IsPut {A : Type 0} (list buffer : List A) (len number : ℕ) : Type 0 where
  pub number_is : number ≡ room_code (length list) (length buffer)
  pub len_is : len ≡ length list
  pub front : number ≡ 0 → take len buffer ≡ list

-- the list that there is to tell is told in a buffer, or the number says why there is none
abbrev pub IsPutIn : {A : Type 0} → Result (List A) Fault → List A → ℕ → ℕ → Type 0
IsPutIn (Ok list) buffer len number = IsPut list buffer len number
IsPutIn (Err fault) buffer len number = number ≡ fault_code fault

-- the value that there is to tell is told, or the number says why there is none
abbrev pub IsToldAs : {A : Type 0} → Result A Fault → A → ℕ → Type 0
IsToldAs (Ok wanted) value number = (number ≡ 0) × (value ≡ wanted)
IsToldAs (Err fault) value number = number ≡ fault_code fault

-- it is told so, unless the number is that of want of memory, which may come to a session that is open, and to no other
pub record UnlessMemory (held : Option Holding) (number : ℕ) (told : Type 0) : Type 0 where
  pub memory : number ≡ fault_code Memory → IsSome held
  pub told_so : number ≢ fault_code Memory → told
