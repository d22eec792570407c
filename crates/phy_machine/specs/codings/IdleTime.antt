-- How long nothing happens at a node, by its phase. No public contract cites this file.
use Rattle.std.specs.Prelude.{◌≡◌, ℕ, ◌+◌, ◌-◌, ◌≤◌, ◌<◌, Bool, true, false, ◌||◌, ◌==◌, not, min, nat_le, count_by, Option, Some, None, if◌then◌else◌}
use Rattle.port_state.specs.declared.signal.Level.{Level}
use Rattle.port_state.specs.declared.signal.Phase.{Phase}
use Rattle.port_state.specs.declared.signal.Phase.TheVariants.{ResetStart, ResetWait, TreeStart, ChildShake, ParentShake, Contend, SelfIdent, Ready}
use Rattle.port_state.specs.declared.states.NodeState.{NodeState}
use Rattle.port_state.specs.Ports.{asks, is_idle, is_child, is_parent, is_unnamed, connected_count, every, lowest, port_is}
use Rattle.port_state.specs.Resetting.{is_calm}
use Rattle.port_state.specs.SelfIdentify.{may_name}
use Rattle.port_state.specs.Idle.{rests, with_later_timer}

-- how many packets a node with so many ports has
abbrev pub packet_count : ℕ → ℕ
packet_count ports = if nat_le ports 3 then 1 else (if nat_le ports 11 then 2 else 3)

-- the times fit 16 bits
pub record HasTimes (x : NodeState) : Type 0 where
  pub timer : x.view.timer ≤ 65535
  pub wait : x.view.wait ≤ 65535
  pub hold : x.timing.hold ≤ 65535
  pub force : x.timing.force ≤ 65535
  pub timeout : x.timing.timeout ≤ 65535

-- as long as a machine looks ahead
abbrev pub look_ahead : ℕ
look_ahead = 4000000

-- how many ticks there are before the one that raises the timer to a time
abbrev pub ticks_before : ℕ → NodeState → ℕ
ticks_before time x = time - (x.view.timer + 1)

-- where a row waits for the ports: no tick, or as many as it takes
abbrev pub idle_unless : Bool → ℕ
idle_unless happens = if happens then 0 else look_ahead

-- in T0: until the timeout, idle_unless it was told already; and if all neighbours but one ask,
-- until the force time; and if the roles are decided, no tick
abbrev pub until_timeout : NodeState → ℕ
until_timeout x = if x.view.timed_out then look_ahead else ticks_before x.timing.timeout x

abbrev pub until_force : NodeState → ℕ
until_force x = if x.view.force then ticks_before x.timing.force x else 0

abbrev pub until_roles : NodeState → ℕ
until_roles x =
    let asking = count_by asks x.view.ports in
    if asking == connected_count x.view.ports then 0
    else (if asking + 1 == connected_count x.view.ports then until_force x else look_ahead)

-- in T2 with a parent port: until it shows Child or Parent
abbrev pub is_answer : Level → Bool
is_answer l = is_child l || is_parent l

abbrev pub until_answer : Option ℕ → NodeState → ℕ
until_answer None x = 0
until_answer (Some parent) x = idle_unless (port_is (λ p. is_answer p.shown) x.view.ports parent)

-- in T3 with a rival: until the wait is over
abbrev pub until_waited : Option ℕ → NodeState → ℕ
until_waited None x = look_ahead
until_waited (Some rival) x = ticks_before x.view.wait x

-- in S0 to S2: until the grant; then until the child that was asked says Done, and no tick if none
-- was
abbrev pub until_done : Option ℕ → NodeState → ℕ
until_done None x = idle_unless (may_name x)
until_done (Some port) x = idle_unless (not (port_is (λ p. p.asked) x.view.ports port))

abbrev pub until_named : NodeState → ℕ
until_named x = if x.view.granted then until_done (lowest is_unnamed x.view.ports) x else look_ahead

abbrev pub idle_in : Phase → NodeState → ℕ
idle_in ResetStart x = ticks_before x.timing.hold x
idle_in ResetWait x = idle_unless (every (λ p. is_calm p.shown) x.view.ports)
idle_in TreeStart x = min (until_roles x) (until_timeout x)
idle_in ChildShake x =
    idle_unless (every (λ p. if p.child then is_idle p.shown else true) x.view.ports)
idle_in ParentShake x = until_answer x.view.parent x
idle_in Contend x = until_waited x.view.parent x
idle_in SelfIdent x = until_named x
idle_in Ready x = look_ahead

-- the rows of so many ticks change nothing
abbrev pub RestsFor : ℕ → NodeState → Type 0
RestsFor count x = (k : ℕ) → k < count → rests (with_later_timer k x) ≡ true

-- and that of the next does, if there are fewer than a machine looks ahead
abbrev pub StirsAfter : ℕ → NodeState → Type 0
StirsAfter count x = count < look_ahead → rests (with_later_timer count x) ≡ false
