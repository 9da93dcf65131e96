-- What the reply to a granted call tells. No public clause cites this module.
use Rattle.std.specs.Prelude.{◌-◌}
use Rattle.qplain.specs.declared.change.Change.{Change}
use Rattle.qstore_accounts.specs.Claims.{weight_in}
use Rattle.qstore.specs.declared.request.Exchange.{Exchange}

-- how the totals rise and fall where the inode of one claim comes to stand in the place of the other's
abbrev pub total_change : Exchange → Change
total_change exchange = record {
  blocks_charged = (weight_in exchange.to).blocks - (weight_in exchange.from).blocks;
  blocks_released = (weight_in exchange.from).blocks - (weight_in exchange.to).blocks;
  inodes_charged = (weight_in exchange.to).inodes - (weight_in exchange.from).inodes;
  inodes_released = (weight_in exchange.from).inodes - (weight_in exchange.to).inodes;
}
