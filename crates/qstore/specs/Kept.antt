-- How a store keeps its state. No public clause cites this module.
use Rattle.qplain.specs.State.{State}
use Rattle.qstore.specs.declared.store.Store.TheInside.{Inside}
use Rattle.qstore.specs.Parts.{state_of_parts}
use Rattle.qstore.specs.Stored.{Stored}

-- the plain machine's state that a store stands for
abbrev pub state_of : Inside → State
state_of a = state_of_parts a.file_limit a.accounts a.tree a.next

-- what a caller sees of a store
abbrev pub stored_of : Inside → Stored
stored_of a =
    record { state = state_of a; room = a.tree.room; books = a.accounts; bill = a.bill; plan = a.plan }
