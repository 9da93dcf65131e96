-- What a caller sees of a store: the plain machine's state, and beside it the room that `ready` makes, the books, the
-- bill that was granted last, and what is ready.
use Rattle.std.specs.Prelude.{◌≡◌, ◌≤◌}
use Rattle.qblocks.specs.declared.file.TheConstants.{MAX_SIZE}
use Rattle.qplain.specs.State.{State}
use Rattle.qplain_laws.specs.Laws.{IsLawful}
use Rattle.qstore_tree.specs.Room.{Room}
use Rattle.qstore_accounts.specs.declared.bill.Bill.{Bill}
use Rattle.qstore_accounts.specs.Books.{Books}
use Rattle.qstore.specs.declared.plan.Plan.{Plan}

-- a state that a store can be in: a lawful one, whose file limit is within what a file can hold
pub record IsStorable (S : State) : Type 0 where
  pub lawful : IsLawful S
  pub file_bound : S.file_limit ≤ MAX_SIZE

-- the state, the room that is made in it, the books that its accounts are kept in, the bill that is to be settled, and
-- what else is to be done
pub record Stored : Type 0 where
  pub state : State
  pub room : Room
  pub books : Books
  pub bill : Bill
  pub plan : Plan

-- the two have the same state and books, whatever room, bill and plan there is
pub record IsSameStore (old new : Stored) : Type 0 where
  pub state : new.state ≡ old.state
  pub books : new.books ≡ old.books
