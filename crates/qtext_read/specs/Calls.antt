-- A call is its verb and the values in the places of its arguments; and the call that words spell.
use Rattle.std.specs.Prelude.{ℕ, ◌<◌, ◌^◌, List, [], ◌∷◌, length, None, Result, Ok, Err, replicate, if◌then◌else◌}
use Rattle.qplain.specs.declared.call.Call.{Call}
use Rattle.qplain.specs.declared.call.Call.TheVariants.{Create, Mkdir, Write, Truncate, Read, Stat, Link, Unlink}
use Rattle.qplain.specs.declared.call.Call.TheVariants.{Rmdir, Rename, Chown, SetQuota, SetGrace, Quota}
use Rattle.qplain.specs.Paths.{ArePathBytes}
use Rattle.qplain.specs.Ranges.{AreBytes, AreLimits, IsOwner}
use Rattle.qplain.specs.declared.edition.Edition.{Edition}
use Rattle.qplain.specs.declared.edition.Edition.TheVariants.{Two}
use Rattle.qtext.specs.declared.text_fault.TextKind.{TextKind}
use Rattle.qtext.specs.declared.text_fault.TextKind.TheVariants.{BadVerb, WordCount}
use Rattle.qtext.specs.Reading.{◌>>=◌}
use Rattle.qtext_read.specs.declared.call.CallParts.{CallParts}
use Rattle.qtext_read.specs.declared.call.Values.{Values}
use Rattle.qtext_read.specs.declared.call.Values.TheVariants as values
use Rattle.qtext_read.specs.declared.row.Verb.{Verb}
use Rattle.qtext_read.specs.declared.row.Verb.TheVariants as verb
use Rattle.qtext_read.specs.Rows.{Value, PathValue, DataValue, NumberValue, KindValue, OwnerValue, ProjectValue}
use Rattle.qtext_read.specs.Rows.{row, takes, values_in, verb_of}

-- the call of a verb and the values in the places of its arguments, where they are those that it takes; a fill is a
-- write of that many equal bytes
unfoldable pub call_by : Verb → List Value → Result Call TextKind
call_by verb.Create (PathValue path ∷ []) = Ok (Create path)
call_by verb.Mkdir (PathValue path ∷ []) = Ok (Mkdir path)
call_by verb.Write (PathValue path ∷ NumberValue off ∷ DataValue bytes ∷ []) = Ok (Write path off bytes)
call_by verb.Fill (PathValue path ∷ NumberValue off ∷ NumberValue count ∷ DataValue (byte ∷ []) ∷ []) =
    Ok (Write path off (replicate count byte))
call_by verb.Truncate (PathValue path ∷ NumberValue size ∷ []) = Ok (Truncate path size)
call_by verb.Read (PathValue path ∷ NumberValue off ∷ NumberValue len ∷ []) = Ok (Read path off len)
call_by verb.Stat (PathValue path ∷ []) = Ok (Stat path)
call_by verb.Link (PathValue from ∷ PathValue to ∷ []) = Ok (Link from to)
call_by verb.Unlink (PathValue path ∷ []) = Ok (Unlink path)
call_by verb.Rmdir (PathValue path ∷ []) = Ok (Rmdir path)
call_by verb.Rename (PathValue from ∷ PathValue to ∷ []) = Ok (Rename from to)
call_by verb.Chown (PathValue path ∷ OwnerValue uid ∷ OwnerValue gid ∷ []) = Ok (Chown path uid gid None)
call_by verb.Chown (PathValue path ∷ OwnerValue uid ∷ OwnerValue gid ∷ ProjectValue project ∷ []) =
    Ok (Chown path uid gid project)
call_by verb.SetQuota (KindValue kind ∷ NumberValue id ∷ NumberValue bs ∷ NumberValue bh
    ∷ NumberValue is ∷ NumberValue ih ∷ []) =
    Ok (SetQuota kind id (record { block_soft = bs; block_hard = bh; inode_soft = is; inode_hard = ih }))
call_by verb.SetGrace (NumberValue block ∷ NumberValue inode ∷ []) =
    Ok (SetGrace (record { block = block; inode = inode }))
call_by verb.Quota (KindValue kind ∷ NumberValue id ∷ []) = Ok (Quota kind id)
call_by _ _ = Err WordCount

-- as many arguments as the verb takes, each in its place, from left to right
unfoldable pub call_of : Edition → Verb → List (List ℕ) → Result Call TextKind
call_of edition verb words =
    if takes verb (length words) then (do
      values ← values_in edition (row verb) words
      call_by verb values)
    else Err WordCount

-- the call that words of a script spell, the first of them its verb: scripts are of edition 2
unfoldable pub call_in : List (List ℕ) → Result Call TextKind
call_in [] = Err BadVerb
call_in (v ∷ arguments) = do
  verb ← verb_of v
  call_of Two verb arguments

-- a verb, and the values in the places of its arguments
pub data Parts : Type 0 where
  Of : Verb → List Value → Parts

-- the parts of a call
abbrev pub parts_of : Call → Parts
parts_of (Create path) = Of verb.Create (PathValue path ∷ [])
parts_of (Mkdir path) = Of verb.Mkdir (PathValue path ∷ [])
parts_of (Write path off bytes) = Of verb.Write (PathValue path ∷ NumberValue off ∷ DataValue bytes ∷ [])
parts_of (Truncate path size) = Of verb.Truncate (PathValue path ∷ NumberValue size ∷ [])
parts_of (Read path off len) = Of verb.Read (PathValue path ∷ NumberValue off ∷ NumberValue len ∷ [])
parts_of (Stat path) = Of verb.Stat (PathValue path ∷ [])
parts_of (Link from to) = Of verb.Link (PathValue from ∷ PathValue to ∷ [])
parts_of (Unlink path) = Of verb.Unlink (PathValue path ∷ [])
parts_of (Rmdir path) = Of verb.Rmdir (PathValue path ∷ [])
parts_of (Rename from to) = Of verb.Rename (PathValue from ∷ PathValue to ∷ [])
parts_of (Chown path uid gid project) =
    Of verb.Chown (PathValue path ∷ OwnerValue uid ∷ OwnerValue gid ∷ ProjectValue project ∷ [])
parts_of (SetQuota kind id l) = Of verb.SetQuota (KindValue kind ∷ NumberValue id ∷ NumberValue l.block_soft
    ∷ NumberValue l.block_hard ∷ NumberValue l.inode_soft ∷ NumberValue l.inode_hard ∷ [])
parts_of (SetGrace graces) = Of verb.SetGrace (NumberValue graces.block ∷ NumberValue graces.inode ∷ [])
parts_of (Quota kind id) = Of verb.Quota (KindValue kind ∷ NumberValue id ∷ [])

-- the values that stand in the places of arguments
abbrev pub values_of : Values → List Value
values_of (values.Path path) = PathValue path.now ∷ []
values_of (values.Paths from to) = PathValue from.now ∷ PathValue to.now ∷ []
values_of (values.Size path size) = PathValue path.now ∷ NumberValue size ∷ []
values_of (values.Range path off len) = PathValue path.now ∷ NumberValue off ∷ NumberValue len ∷ []
values_of (values.Bytes path off bytes) = PathValue path.now ∷ NumberValue off ∷ DataValue bytes.now ∷ []
values_of (values.Owners path uid gid project) =
    PathValue path.now ∷ OwnerValue uid ∷ OwnerValue gid ∷ ProjectValue project ∷ []
values_of (values.Limits kind id l) = KindValue kind ∷ NumberValue id ∷ NumberValue l.now.block_soft
    ∷ NumberValue l.now.block_hard ∷ NumberValue l.now.inode_soft ∷ NumberValue l.now.inode_hard ∷ []
values_of (values.Graces graces) = NumberValue graces.now.block ∷ NumberValue graces.now.inode ∷ []
values_of (values.Record kind id) = KindValue kind ∷ NumberValue id ∷ []

-- the parts that are there
abbrev pub parts_in : CallParts → Parts
parts_in parts = Of parts.verb (values_of parts.values)

-- the values are what their types can hold
abbrev pub AreTyped : Values → Type 0
AreTyped (values.Path path) = ArePathBytes path.now
AreTyped (values.Paths from to) = ArePathBytes from.now × ArePathBytes to.now
AreTyped (values.Size path size) = ArePathBytes path.now × (size < 2 ^ 64)
AreTyped (values.Range path off len) = ArePathBytes path.now × (off < 2 ^ 64) × (len < 2 ^ 64)
AreTyped (values.Bytes path off bytes) = ArePathBytes path.now × (off < 2 ^ 64) × AreBytes bytes.now
AreTyped (values.Owners path uid gid project) =
    ArePathBytes path.now × IsOwner uid × IsOwner gid × IsOwner project
AreTyped (values.Limits kind id limits) = (id < 2 ^ 32) × AreLimits limits.now
AreTyped (values.Graces graces) = (graces.now.block < 2 ^ 64) × (graces.now.inode < 2 ^ 64)
AreTyped (values.Record kind id) = id < 2 ^ 32
