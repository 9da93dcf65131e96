-- What a configuration says that a bound client may take of a service.
use Rattle.std.specs.Prelude.{ℕ, ℤ, Bool, ◌*◌, ◌&&◌, ◌||◌, nat_le, if◌then◌else◌, codes, is_some}
use Rattle.std.specs.Prelude.{Option, Some, None, option_map, Result, Ok, Err}
use Rattle.toml.specs.Data.{Members}
use Rattle.qtext.specs.Reading.{◌>>=◌}
use Rattle.qtext_config.specs.declared.config.share.ClientShare.{ClientShare}
use Rattle.qtext_config.specs.declared.config.share.TheConstants.{MAX_CALLS, MAX_DEPTH, MAX_KIB, MAX_RATE}
use Rattle.qtext_config.specs.declared.config.share.WrittenShare.{WrittenShare}
use Rattle.qtext_config.specs.ConfigFaults.{Cause, Range}
use Rattle.qtext_config.specs.ConfigFields.{number_of, optional_integer_at}

-- the share that a table writes
unfoldable pub share_at : Members → Result WrittenShare Cause
share_at table = do
  calls ← optional_integer_at (codes "share_calls") table
  kib ← optional_integer_at (codes "share_kib") table
  depth ← optional_integer_at (codes "share_depth") table
  rate ← optional_integer_at (codes "share_rate") table
  Ok (record { calls = calls; kib = kib; depth = depth; rate = rate })

-- whether any of it is written
abbrev pub is_written : WrittenShare → Bool
is_written share = is_some share.calls || is_some share.kib || is_some share.depth || is_some share.rate

-- a number, if it is within these
abbrev pub number_within : ℕ → ℕ → ℕ → Result (Option ℕ) Cause
number_within least most number = if nat_le least number && nat_le number most then Ok (Some number) else Err Range

-- the number of an integer, if there is one, within these
unfoldable pub number_in : ℕ → ℕ → Option ℤ → Result (Option ℕ) Cause
number_in least most None = Ok None
number_in least most (Some integer) = do
  number ← number_of integer
  number_within least most number

-- the bytes of so many KiB
abbrev pub bytes_of_kib : ℕ → ℕ
bytes_of_kib kib = kib * 1024

-- the share, each number of which is in its range
unfoldable pub share_of : WrittenShare → Result ClientShare Cause
share_of written = do
  calls ← number_in 0 MAX_CALLS written.calls
  kib ← number_in 0 MAX_KIB written.kib
  depth ← number_in 1 MAX_DEPTH written.depth
  rate ← number_in 1 MAX_RATE written.rate
  Ok (record { calls = calls; bytes = option_map bytes_of_kib kib; depth = depth; rate = rate })
