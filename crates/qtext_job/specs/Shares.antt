-- What a bound client may take of a service, as `clap`'s matches say.
use Rattle.std.specs.Prelude.{◌≡◌, ◌*◌, ℕ, List, codes}
use Rattle.clap.specs.Words.{Row}
use Rattle.qtext_job.specs.declared.share_options.ShareOptions.{ShareOptions}
use Rattle.qtext_job.specs.Numbers.{IsNumberAt}

-- the calls are the number at `--share-calls`, at most 1048576, the bytes are those of as many KiB as that at
-- `--share-kib`, likewise, the depth is that at `--share-depth`, from 1 to 2048, and the rate that at `--share-rate`,
-- from 1 to 1048576
pub record AreSharesIn (rows : List Row) (shares : ShareOptions) : Type 0 where
  pub calls : IsNumberAt (codes "share-calls") 0 1048576 rows shares.calls
  pub kib : ℕ
  pub kib_is : IsNumberAt (codes "share-kib") 0 1048576 rows kib
  pub bytes : shares.bytes ≡ kib * 1024
  pub depth : IsNumberAt (codes "share-depth") 1 2048 rows shares.depth
  pub rate : IsNumberAt (codes "share-rate") 1 1048576 rows shares.rate
