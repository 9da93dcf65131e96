-- What the structs that replies are told in stand for.
use Rattle.qplain.specs.declared.reply.Reply.{Reply}
use Rattle.qplain.specs.declared.reply.Reply.TheVariants.{Done, Stat, Quota}
use Rattle.qplain.specs.declared.tallies.Tallies.{Tallies}
use Rattle.qsession.specs.declared.replies.DoneReply.{DoneReply}
use Rattle.qsession.specs.declared.replies.StatReply.{StatReply}
use Rattle.qsession.specs.declared.replies.QuotaReply.{QuotaReply}
use Rattle.qsession.specs.declared.replies.TallyReply.{TallyReply}
use Rattle.qsession.specs.Requests.{named}

-- the reply to what was done
abbrev pub done_in : DoneReply → Reply
done_in d = Done d.ino (record {
  blocks_charged = d.blocks_charged;
  blocks_released = d.blocks_released;
  inodes_charged = d.inodes_charged;
  inodes_released = d.inodes_released;
})

-- the reply to a stat
abbrev pub stat_in : StatReply → Reply
stat_in s = Stat (record {
  ino = s.ino;
  dir = s.dir;
  uid = s.uid;
  gid = s.gid;
  size = s.size;
  blocks = s.blocks;
  links = s.links;
})

-- the reply to a quota
abbrev pub quota_in : QuotaReply → Reply
quota_in q = Quota (record {
  blocks = q.blocks;
  inodes = q.inodes;
  limits = record {
    block_soft = q.block_soft;
    block_hard = q.block_hard;
    inode_soft = q.inode_soft;
    inode_hard = q.inode_hard;
  };
  block_end = named q.has_block_end q.block_end;
  inode_end = named q.has_inode_end q.inode_end;
})

-- the tally
abbrev pub tallies_in : TallyReply → Tallies
tallies_in t = record {
  blocks_charged = t.blocks_charged;
  blocks_released = t.blocks_released;
  inodes_charged = t.inodes_charged;
  inodes_released = t.inodes_released;
  calls = t.calls;
}
