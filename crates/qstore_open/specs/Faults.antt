-- What is told of a row that is not taken in.
use Rattle.std.specs.Prelude.{◌≡◌, Option, Some, None, Result, Ok, Err}
use Rattle.qtext_image.specs.Faults.{ImageKind}
use Rattle.qtext_image.specs.Faults as said
use Rattle.qstore_open.specs.declared.image_kind.ImageKind as declared
use Rattle.qstore_open.specs.declared.image_kind.ImageKind.TheVariants as kinds
use Rattle.qstore_open.specs.declared.row_fault.RowFault.{RowFault}
use Rattle.qstore_open.specs.declared.row_fault.RowFault.TheVariants as faults

-- what the value says is wrong
abbrev pub kind_of : declared.ImageKind → ImageKind
kind_of (kinds.Text kind) = said.InText kind
kind_of kinds.BadOrder = said.BadOrder
kind_of kinds.BadOwner = said.BadOwner
kind_of kinds.BadName = said.BadName
kind_of kinds.NoInode = said.NoInode
kind_of kinds.BadCount = said.BadCount

-- this is what is wrong, if anything is
abbrev pub TellsFault : {A : Type 0} → Result A declared.ImageKind → Option ImageKind → Type 0
TellsFault (Ok done) fault = fault ≡ None
TellsFault (Err kind) fault = fault ≡ Some (kind_of kind)

-- so of who gives nothing else
abbrev pub Tells : Result Unit declared.ImageKind → Option ImageKind → Type 0
Tells result fault = TellsFault result fault

-- so it is, unless memory ran out
abbrev pub Takes : Result Unit RowFault → Option ImageKind → Type 0
Takes (Ok done) fault = fault ≡ None
Takes (Err faults.Memory) fault = Unit {0}
Takes (Err (faults.Row kind)) fault = fault ≡ Some (kind_of kind)
