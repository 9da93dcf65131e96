-- What stands beside transcripts and records, as objects, one a line (profile).
use Rattle.std.specs.Prelude.{ℕ, List, [], ◌∷◌, ◌++◌, Option, Some, None, Result, Ok, Err, codes, decimal, length}
use Rattle.std.specs.List.{concat, flat_map}
use Rattle.json.specs.Print.{quoted}
use Rattle.qrules.specs.Sort.{Inodes, Blocks}
use Rattle.qrules.specs.declared.kind.Kind.{Kind}
use Rattle.qplain.specs.Use.{total_of}
use Rattle.qplain.specs.declared.board.Board.{Board}
use Rattle.qplain.specs.declared.look_fault.LookFault.{LookFault}
use Rattle.qplain.specs.declared.tallies.Tallies.{Tallies}
use Rattle.qtext.specs.RuleWords.{kind_text}
use Rattle.qaudit.specs.declared.counts.CountRow.{CountRow}
use Rattle.qaudit.specs.declared.counts.LinkRow.{LinkRow}
use Rattle.qaudit.specs.declared.difference.Difference.{Difference}
use Rattle.qaudit.specs.declared.difference.Difference.TheVariants.{Uses, NoRow, Links}
use Rattle.qrun_replay.specs.declared.outcome.Outcome.{Outcome}
use Rattle.qtext_outcome.specs.Boards.{look_fault_text}
use Rattle.qtext_rows.specs.Values.{member, object_start, or_null}

-- a look: the board's version and its totals, or why none was shown
abbrev pub look_object : Result Board LookFault → List ℕ
look_object (Ok b) = concat (object_start (codes "board") ∷ member (codes "version") (decimal b.version)
    ∷ member (codes "blocks") (decimal b.blocks) ∷ member (codes "inodes") (decimal b.inodes)
    ∷ codes "}\n" ∷ [])
look_object (Err fault) = concat (object_start (codes "board") ∷ member (codes "version") (codes "null")
    ∷ member (codes "error") (quoted (look_fault_text fault)) ∷ codes "}\n" ∷ [])

-- what stands over a report: its moment
abbrev pub moment_object : ℕ → List ℕ
moment_object moment = concat (object_start (codes "quota") ∷ member (codes "at") (decimal moment)
    ∷ codes "}\n" ∷ [])

-- the totals, each beside its bound
abbrev pub totals_object : Outcome → List ℕ
totals_object o = concat (object_start (codes "totals")
    ∷ member (codes "blocks") (decimal (total_of o.store.state Blocks))
    ∷ member (codes "blocks_bound") (decimal o.setup.blocks)
    ∷ member (codes "inodes") (decimal (total_of o.store.state Inodes))
    ∷ member (codes "inodes_bound") (decimal o.setup.inodes) ∷ codes "}\n" ∷ [])

-- the tallies of the journal
abbrev pub tally_object : Tallies → List ℕ
tally_object t = concat (object_start (codes "tally") ∷ member (codes "blocks_charged") (decimal t.blocks_charged)
    ∷ member (codes "blocks_released") (decimal t.blocks_released)
    ∷ member (codes "inodes_charged") (decimal t.inodes_charged)
    ∷ member (codes "inodes_released") (decimal t.inodes_released) ∷ member (codes "calls") (decimal t.calls)
    ∷ codes "}\n" ∷ [])

-- what an owner uses by its record, and null where it has none, beside what was counted
abbrev pub use_object : Kind → ℕ → Option ℕ → Option ℕ → CountRow → List ℕ
use_object kind id blocks inodes counted = concat (object_start (codes "difference")
    ∷ member (codes "kind") (quoted (kind_text kind))
    ∷ member (codes "id") (decimal id) ∷ member (codes "blocks") (or_null blocks)
    ∷ member (codes "blocks_counted") (decimal counted.blocks) ∷ member (codes "inodes") (or_null inodes)
    ∷ member (codes "inodes_counted") (decimal counted.inodes) ∷ codes "}\n" ∷ [])

-- an inode whose link counts differ
abbrev pub link_object : LinkRow → List ℕ
link_object l = concat (object_start (codes "difference") ∷ member (codes "inode") (decimal l.ino)
    ∷ member (codes "links") (decimal l.recorded) ∷ member (codes "links_counted") (decimal l.counted)
    ∷ codes "}\n" ∷ [])

-- a difference that an audit found
abbrev pub difference_object : Difference → List ℕ
difference_object (Uses kind r counted) = use_object kind r.id (Some r.blocks) (Some r.inodes) counted
difference_object (NoRow kind counted) = use_object kind counted.id None None counted
difference_object (Links l) = link_object l

-- how many differences an audit found
abbrev pub audit_start : ℕ → List ℕ
audit_start count = concat (object_start (codes "audit") ∷ member (codes "differences") (decimal count)
    ∷ codes "}\n" ∷ [])

-- what an audit found
abbrev pub audit_objects : List Difference → List ℕ
audit_objects differences = audit_start (length differences) ++ flat_map difference_object differences

-- what stands below the records
abbrev pub rest_objects : Outcome → List ℕ
rest_objects o = totals_object o ++ (tally_object o.tallies ++ audit_objects o.differences)
