-- The election of the bus manager by a lock (IEEE Std 1394-1995, 8.3.2.3.6).
use Rattle.std.specs.Prelude.{◌≡◌, ℕ}
use Rattle.resource_manager.specs.declared.access.Access.{Access}
use Rattle.resource_manager.specs.declared.access.Access.TheVariants.{Lock}
use Rattle.resource_manager.specs.declared.access.Answer.TheVariants.{Replied}
use Rattle.resource_manager.specs.Register.{Values}
use Rattle.resource_manager.specs.Response.{complete}
use Rattle.resource_manager.specs.Access.{answer_of, after}
use Rattle.bus_manager.specs.declared.election.Bid.{Bid}
use Rattle.bus_manager.specs.declared.election.Bid.TheVariants.{Won, Lost}

-- the lock by which a node tries to become bus manager: compare_swap puts its ID into
-- BUS_MANAGER_ID where that holds 0x3F
abbrev pub lock_for : ℕ → Access
lock_for id = Lock 0x21C 2 0x3F id

-- what the lock found in the register
abbrev pub value_found : Bid → ℕ
value_found Won = 0x3F
value_found (Lost old) = old

-- The attempt is that lock, so whatever holds of lists of accesses holds of attempts among them.
pub record IsLockFor (id : ℕ) (old new : Values) (bid : Bid) : Type 0 where
  pub answer : answer_of old (lock_for id) ≡ Replied (complete (value_found bid))
  pub after_is : new ≡ after old (lock_for id)
