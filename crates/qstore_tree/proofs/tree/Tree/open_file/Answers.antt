use Rattle.std.proofs.Common.{◌≡◌, ℕ, zero, suc, ◌-◌, nat_le, true, false, cond, [], ap, arith, refl, replicate, ◌∙◌}
use Rattle.std.specs.BTreeMap.{insert_entry}
use Rattle.std.specs.Ordering.{nat_cmp}
use Rattle.std.proofs.lemmas.Bool.{le-leb}
use Rattle.std.proofs.lemmas.Result.{on_ok_weaker}
use Rattle.qblocks.specs.File.{File, after_truncate, empty_file, resized}
use Rattle.qplain.specs.State.{Inode}
use Rattle.qstore_tree.proofs.tree.Tree.open_file.Goals as goal

-- an empty file at another size has zeros, and no block
unfilled : (size : ℕ) → after_truncate empty_file size ≡ record { bytes = replicate size 0; allocated = [] }
unfolding after_truncate resized
unfilled zero = refl
unfilled (suc n) =
    let whole : suc n - 0 ≡ suc n = omega arith in
    let no_less : nat_le 0 (suc n) ≡ true = le-leb 0 (suc n) (omega arith) in
    λ i. record { bytes = replicate (whole i) 0; allocated = cond (no_less i) [] [] }

pub returns-clause-inodes : goal.returns-clause-inodes
returns-clause-inodes c =
    let made = c.truncate-freed.ensures.file ∙ ap (λ f. after_truncate f.file c.args.size) c.new-file.ensures
    ∙ unfilled c.args.size in
    let inode : File → Inode = λ file. record { dir = false; owners = c.args.owners; file = file } in
    on_ok_weaker c.open_node.result
    (λ is. is ∙ ap (λ file. insert_entry nat_cmp c.args.self.now.inodes c.args.number (inode file)) made)
    c.open_node.ensures.inodes
