-- Who is to look at the boards of a store while a crew plays on it. No public clause cites this module.
use Rattle.std.specs.Prelude.{ℕ, Option, None, Some}
use Rattle.qrun.specs.declared.looking.Looking.{Looking}
use Rattle.qrun.specs.declared.looking.Looking.TheVariants.{Nobody, Watching, Showing}

-- how many there are of them
abbrev pub lookers_in : {M : Type 0} → Looking M → ℕ
lookers_in Nobody = 0
lookers_in (Watching calls boards) = 1
lookers_in (Showing monitor) = 1

-- of how many looks is kept what they were given
abbrev pub looks_to_keep : {M : Type 0} → Looking M → ℕ
looks_to_keep Nobody = 0
looks_to_keep (Watching calls boards) = boards
looks_to_keep (Showing monitor) = 0

-- the monitor that is shown the boards, where there is one
abbrev pub monitor_of : {M : Type 0} → Looking M → Option M
monitor_of Nobody = None
monitor_of (Watching calls boards) = None
monitor_of (Showing monitor) = Some monitor
