-- What a call's attempt comes to passes a test that all refusals pass.
use Rattle.std.proofs.Common.{◌≡◌, ℕ, Bool, true, false, cond, List, Option, Some, None, Result, Ok, Err}
use Rattle.qplain.specs.declared.change.Change.{Change}
use Rattle.qplain.specs.declared.refusal.Refusal.{Refusal}
use Rattle.qplain.specs.declared.refusal.Refusal.TheVariants.{EMLINK, ENOENT}
use Rattle.qplain.specs.declared.reply.Reply.{Reply}
use Rattle.qplain.specs.declared.reply.Reply.TheVariants.{Done, Refused}
use Rattle.qplain.specs.Caller.{Caller}
use Rattle.qplain.specs.State.{Inode, State, inode_at, named}
use Rattle.qplain.specs.Use.{has_too_many_links}
use Rattle.qplain.specs.Walk.{components, last_name, led_to, parent, walk}
use Rattle.qplain.specs.Decision.{refusal_between}
use Rattle.qplain.specs.Attempt.{Attempt, Refuse, Answer, Becomes, at_inode, at_name, at_path, at_reached, in_parent, in_reached, under}
use Rattle.qplain.specs.Names.{unless_too_many_links}
use Rattle.qplain.specs.Calls.{unless}
use Rattle.qplain.specs.Step.{change_between, settle, settled}

-- an answer passes the test, and where something becomes of the state so does every reply that it was done
abbrev IsFit : (Reply → Bool) → Attempt → Type 0
IsFit test (Refuse r) = Unit {0}
IsFit test (Answer reply) = test reply ≡ true
IsFit test (Becomes T number) = (change : Change) → test (Done number change) ≡ true

-- so it is for an attempt
pub record Fits (test : Reply → Bool) (a : Attempt) : Type 0 where
  pub fit : IsFit test a

module _ (test : Reply → Bool) where
  pub refuses : (r : Refusal) → Fits test (Refuse r)
  refuses r = record { fit = tt }

  pub answers : (reply : Reply) → test reply ≡ true → Fits test (Answer reply)
  answers reply passes = record { fit = passes }

  pub becomes : (T : State) (number : ℕ) → ((change : Change) → test (Done number change) ≡ true) → Fits test (Becomes T number)
  becomes T number passes = record { fit = passes }

  -- one of two attempts
  pub either : (b : Bool) (x y : Attempt) → Fits test x → Fits test y → Fits test (cond b x y)
  either true x y p q = p
  either false x y p q = q

  -- a refusal, or another attempt
  pub or : (b : Bool) (r : Refusal) (a : Attempt) → Fits test a → Fits test (cond b (Refuse r) a)
  or b r a fits = either b (Refuse r) a (refuses r) fits

  pub unless-fits : (o : Option Refusal) (a : Attempt) → Fits test a → Fits test (unless o a)
  unless-fits (Some r) a fits = refuses r
  unless-fits None a fits = fits

  at_inode-fits : (try : ℕ → Inode → Attempt) (number : ℕ) (o : Option Inode) → ((inode : Inode) → Fits test (try number inode))
      → Fits test (at_inode try number o)
  at_inode-fits try number None each = refuses ENOENT
  at_inode-fits try number (Some inode) each = each inode

  at_reached-fits : (S : State) (try : ℕ → Inode → Attempt) (r : Result ℕ Refusal) → ((number : ℕ) (inode : Inode) → Fits test (try number inode))
      → Fits test (at_reached S try r)
  at_reached-fits S try (Err e) each = refuses e
  at_reached-fits S try (Ok number) each = at_inode-fits try number (inode_at S number) (each number)

  in_reached-fits : (try : ℕ → List ℕ → Attempt) (name : List ℕ) (r : Result ℕ Refusal) → ((dir : ℕ) → Fits test (try dir name))
      → Fits test (in_reached try name r)
  in_reached-fits try name (Err e) each = refuses e
  in_reached-fits try name (Ok dir) each = each dir

  under-fits : (S : State) (of_root : Refusal) (try : ℕ → List ℕ → Attempt) (names : List (List ℕ)) (o : Option (List ℕ))
      → ((dir : ℕ) (name : List ℕ) → Fits test (try dir name)) → Fits test (under S of_root try names o)
  under-fits S of_root try names None each = refuses of_root
  under-fits S of_root try names (Some name) each = in_reached-fits try name (parent S names) (λ dir. each dir name)

  pub at_path-fits : (S : State) (try : ℕ → Inode → Attempt) (path : List ℕ) → ((number : ℕ) (inode : Inode) → Fits test (try number inode))
      → Fits test (at_path S try path)
  at_path-fits S try path each = at_reached-fits S try (walk S (components path)) each

  pub at_name-fits : (S : State) (try : ℕ → Inode → Attempt) (dir : ℕ) (name : List ℕ) → ((number : ℕ) (inode : Inode) → Fits test (try number inode))
      → Fits test (at_name S try dir name)
  at_name-fits S try dir name each = at_reached-fits S try (led_to (named S dir name)) each

  pub in_parent-fits : (S : State) (of_root : Refusal) (try : ℕ → List ℕ → Attempt) (path : List ℕ)
      → ((dir : ℕ) (name : List ℕ) → Fits test (try dir name)) → Fits test (in_parent S of_root try path)
  in_parent-fits S of_root try path each = under-fits S of_root try (components path) (last_name (components path)) each

  pub few_links-fits : (T : State) (number : ℕ) → ((change : Change) → test (Done number change) ≡ true) → Fits test (unless_too_many_links T number)
  few_links-fits T number passes = or (has_too_many_links T) EMLINK (Becomes T number) (becomes T number passes)

  settled-fits : (S T : State) (number moment : ℕ) (o : Option Refusal) → ((r : Refusal) → test (Refused r) ≡ true)
      → ((change : Change) → test (Done number change) ≡ true) → test (settled S T number moment o).1 ≡ true
  settled-fits S T number moment (Some r) refused done = refused r
  settled-fits S T number moment None refused done = done (change_between S T)

  -- what the attempt comes to passes the test
  pub settle-fits : (S : State) (cred : Caller) (moment : ℕ) (a : Attempt) → ((r : Refusal) → test (Refused r) ≡ true) → Fits test a
      → test (settle S cred moment a).1 ≡ true
  settle-fits S cred moment (Refuse r) refused fits = refused r
  settle-fits S cred moment (Answer reply) refused fits = fits.fit
  settle-fits S cred moment (Becomes T number) refused fits =
      settled-fits S T number moment (refusal_between S T cred moment) refused fits.fit
