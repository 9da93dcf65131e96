use Rattle.std.proofs.Common.{rules, w64}
use mir.Val.{SFits}
use Rattle.std.proofs.lemmas.Int.{to_z-of_z}
use Rattle.qtext_config.specs.Configs.{fields_of}
use Rattle.qtext_config.proofs.config.written.fields_of.Goals as goal

pub returns : goal.returns
unfolding fields_of
returns c =
    let inodes : SFits w64 c.in_ok-inodes.inodes = search rules in
    let block_grace : SFits w64 c.in_ok-block_grace.block_grace = search rules in
    let inode_grace : SFits w64 c.in_ok-inode_grace.inode_grace = search rules in
    simp to_z-of_z (rw (
      c.in_ok-blocks.ensures,
      c.in_ok-inodes.ensures,
      c.in_ok-block_grace.ensures,
      c.in_ok-inode_grace.ensures,
      c.in_ok-users.ensures,
      c.in_ok-groups.ensures,
      c.in_ok-projects.ensures,
    ))
