-- Worked rows of the step table: two nodes on one cable, of which one becomes leaf and the other
-- root, a contention, and the first coins. The times are the usual ones for cables of at most 4
-- ticks: a hold of 256, a force time of 1024, a timeout of 2048, and waits of 12 and 32.
use Rattle.std.proofs.Common.{◌≡◌, ℕ, zero, suc, Bool, true, false, List, [], ◌∷◌, Some, None, refl, sym, ◌∙◌, ap}
use Rattle.self_id.specs.declared.node.Attrs.{Attrs}
use Rattle.self_id.specs.Group.{group}
use Rattle.port_state.specs.declared.signal.Level.{Level}
use Rattle.port_state.specs.declared.signal.Level.TheVariants as level
use Rattle.port_state.specs.declared.signal.Phase.TheVariants.{ResetStart, ResetWait, TreeStart, ChildShake, ParentShake, Contend, SelfIdent, Ready}
use Rattle.port_state.specs.declared.signal.Signal.{Signal}
use Rattle.port_state.specs.declared.signal.Signal.TheVariants as signal
use Rattle.port_state.specs.declared.ports.PortView.{PortView}
use Rattle.port_state.specs.declared.states.NodeState.{NodeState}
use Rattle.port_state.specs.Timing.{usual_timing}
use Rattle.port_state.specs.Step.{Step}
use Rattle.port_state.specs.Coins.{coin_at, coins_of_bits, coins_of_seed}
use Rattle.port_state.specs.PowerOn.{power_on, power_on_with}
use Rattle.port_state.specs.Entry.{enter, plugged, pulled}
use Rattle.port_state.specs.Config.{config_packet, set_config}
use Rattle.port_state.specs.Heard.{on_signal}
use Rattle.port_state.specs.Row as row
use Rattle.port_state.specs.Row.{Row}
use Rattle.port_state.specs.Tick.{next_row, tick}
use Rattle.port_state.specs.Names as name
use Rattle.port_state.specs.Names.{KeepsBut, without_all, signal_names}

-- a node of one port at power-on: S400, a link, no contender, a gap count of 63
abbrev attrs : Attrs
attrs = record { link = true; gap = 63; speed = 2; delay = 0; contender = false; power = 0; initiated = false }

abbrev fresh : Bool → NodeState
fresh force = power_on 1 attrs force (usual_timing 4)

-- the node after so many ticks, with this coin next
abbrev ticks : Bool → ℕ → NodeState → NodeState
ticks coin zero x = x
ticks coin (suc n) x = ticks coin n (tick coin x).state

-- the node after its port heard a signal
abbrev hears : Signal → NodeState → NodeState
hears s x = (on_signal 0 s x).state

abbrev port : Level → Bool → Bool → Bool → List PortView
port shown child asked named = (let p : PortView = record { connected = true; shown = shown; child = child; asked = asked; named = named } in p) ∷ []

-- ---- entry and hold

-- a cable resets the bus
plugged-sends : (plugged 0 (fresh false)).sends ≡ (0, signal.Reset) ∷ []
unfolding enter
plugged-sends = refl

plugged-ports : (plugged 0 (fresh false)).state.view.ports ≡ port level.Reset false false false
unfolding enter
plugged-ports = refl

-- a reset with a packet before it that gives this gap count
abbrev given : ℕ → NodeState → NodeState
given gap x = (enter true (set_config (config_packet 0 false (Some gap)) x)).state

-- a reset without a packet
abbrev again : NodeState → NodeState
again x = (enter true x).state

-- a gap count stays until another packet gives one
gap-stays : (again (again (given 5 (fresh false)))).view.gap ≡ 5
unfolding enter
gap-stays = refl

-- a node that resets its gap count has 63 at the second reset without a packet
abbrev resetting : NodeState
resetting = power_on_with true 1 (record attrs { gap = 7 }) false (usual_timing 4)

gap-resets :
    ((given 5 resetting).view.gap ≡ 5) × ((again (given 5 resetting)).view.gap ≡ 63)
    × ((given 6 (given 5 resetting)).view.gap ≡ 6)
unfolding enter
gap-resets = (refl, refl, refl)

-- its power-on is the first of two
own-gap-resets : (resetting.view.gap ≡ 7) × ((again resetting).view.gap ≡ 63)
unfolding enter
own-gap-resets = (refl, refl)

plugged-resets : (plugged 0 (fresh false)).state.view.resets ≡ 2
unfolding enter
plugged-resets = refl

-- Reset is sent for 256 ticks
abbrev start : Bool → NodeState
start force = (plugged 0 (fresh force)).state

held-255 : (ticks false 255 (start false)).view.phase ≡ ResetStart
unfolding enter tick
held-255 = refl

held-256 : (ticks false 256 (start false)).view.phase ≡ ResetWait
unfolding enter tick
held-256 = refl

-- then Idle goes out, and the neighbour's Idle lets the tree begin
waiting-sends : (tick false (ticks false 255 (start false))).sends ≡ (0, signal.Idle) ∷ []
unfolding enter tick
waiting-sends = refl

abbrev in_tree : Bool → NodeState
in_tree force = ticks false 1 (hears signal.Idle (ticks false 256 (start force)))

tree-phase : (in_tree false).view.phase ≡ TreeStart
unfolding enter tick on_signal
tree-phase = refl

-- ---- the leaf: it asks its neighbour, is accepted, and identifies itself when it is granted

leaf-asks : (tick false (in_tree false)).sends ≡ (0, signal.Parent) ∷ []
unfolding enter tick on_signal
leaf-asks = refl

abbrev asking : NodeState
asking = ticks false 1 (in_tree false)

leaf-parent : asking.view.parent ≡ Some 0
unfolding enter tick on_signal
leaf-parent = refl

leaf-phases : (asking.view.phase ≡ ChildShake) × ((ticks false 1 asking).view.phase ≡ ParentShake)
unfolding enter tick on_signal
leaf-phases = (refl, refl)

-- before self identify neither a grant nor a packet counts
early :
    ((hears signal.Grant asking).view.granted ≡ false)
    × ((hears (signal.Packet 0x807f8082) asking).list.items ≡ [])
unfolding enter tick on_signal
early = (refl, refl)

-- the neighbour shows Child
abbrev accepted : Step
accepted = tick false (hears signal.Child (ticks false 1 asking))

leaf-accepted : (accepted.state.view.phase ≡ SelfIdent) × (accepted.sends ≡ (0, signal.Idle) ∷ [])
unfolding enter tick on_signal
leaf-accepted = (refl, refl)

-- a Done from the parent port names no child
parent-done : (hears signal.Done accepted.state).view.ports ≡ port level.Child false false false
unfolding enter tick on_signal
parent-done = refl

-- its packet zero has ID 0, L, a gap count of 63, S400, slot 0 up and i
abbrev leaf_named : Step
leaf_named = tick false (hears signal.Grant accepted.state)

leaf-named :
    (leaf_named.sends ≡ (0, signal.Packet 0x807f8082) ∷ (0, signal.Done) ∷ [])
    × (leaf_named.state.view.id ≡ Some 0) × (leaf_named.state.view.phase ≡ Ready)
unfolding enter tick on_signal group
leaf-named = (refl, refl, refl)

-- ---- the root: its neighbour asks it, and identifies itself first

abbrev asked : Step
asked = tick false (hears signal.Parent (in_tree false))

root-accepts :
    (asked.sends ≡ (0, signal.Child) ∷ [])
    × (asked.state.view.ports ≡ port level.Parent true false false)
    × (asked.state.view.parent ≡ None)
unfolding enter tick on_signal
root-accepts = (refl, refl, refl)

-- with the child's Idle the root passes both handshakes, and grants
abbrev granting : Step
granting = tick false (ticks false 2 (hears signal.Idle asked.state))

root-grants :
    (granting.sends ≡ (0, signal.Grant) ∷ []) × (granting.state.view.granted ≡ true)
    × (granting.state.view.ports ≡ port level.Idle true true false)
unfolding enter tick on_signal
root-grants = (refl, refl, refl)

-- the child's packet is kept, and not sent back
abbrev informed : Step
informed = on_signal 0 (signal.Packet 0x807f8082) granting.state

root-keeps : (informed.state.list.items ≡ 0x807f8082 ∷ []) × (informed.sends ≡ [])
unfolding enter tick on_signal
root-keeps = (refl, refl)

-- it waits for Done, and is then the next
root-waits : (tick false informed.state).sends ≡ []
unfolding enter tick on_signal
root-waits = refl

abbrev root_named : Step
root_named = tick false (hears signal.Done informed.state)

root-named :
    (root_named.sends ≡ (0, signal.Packet 0x817f80c2) ∷ []) × (root_named.state.view.id ≡ Some 1)
    × (root_named.state.list.items ≡ 0x807f8082 ∷ 0x817f80c2 ∷ [])
unfolding enter tick on_signal group
root-named = (refl, refl, refl)

-- a reset clears the tree, and begins none of its own at the node that hears it
root-reset :
    let s = on_signal 0 signal.Reset root_named.state in (s.sends ≡ (0, signal.Reset) ∷ [])
    × (s.state.list.items ≡ []) × (s.state.view.id ≡ None) × (s.state.view.initiated ≡ false)
    × (s.state.view.ports ≡ port level.Reset false false false) × (s.state.view.resets ≡ 3)
unfolding enter tick on_signal group
root-reset = (refl, refl, refl, refl, refl, refl)

-- ---- force: such a node waits 1024 ticks before it asks; with its timer at 1023 it doesn't ask yet

forced :
    ((ticks false 1023 (in_tree true)).view.phase ≡ TreeStart)
    × ((ticks false 1024 (in_tree true)).view.phase ≡ ChildShake)
unfolding enter tick on_signal
forced = (refl, refl)

-- a configuration packet with R for ID 1, and one with T: the next reset takes them over
configured :
    let x = (plugged 0 (set_config (config_packet 1 true (Some 5)) root_named.state)).state in (x.view.force ≡ true)
    × (x.view.gap ≡ 5)
unfolding enter tick on_signal group
configured = (refl, refl)

-- ---- contention: both asked

abbrev contending : Bool → Step
contending coin = tick coin (hears signal.Parent (ticks false 1 asking))

contends :
    let x = (contending true).state in ((contending true).sends ≡ (0, signal.Idle) ∷ [])
    × (x.view.phase ≡ Contend) × (x.view.wait ≡ 32) × (x.view.draws ≡ 1) × (x.view.first_draws ≡ 1)
unfolding enter tick on_signal
contends = (refl, refl, refl, refl, refl)

contends-short :
    let x = (contending false).state in (x.view.wait ≡ 12) × (x.view.draws ≡ 1)
    × (x.view.first_draws ≡ 0)
unfolding enter tick on_signal
contends-short = (refl, refl, refl)

-- after the short wait the neighbour shows Parent no more, and this node asks again
asks-again :
    let s = tick false (ticks false 11 (hears signal.Idle (contending false).state)) in (s.sends ≡ (0, signal.Parent) ∷ [])
    × (s.state.view.phase ≡ ParentShake)
unfolding enter tick on_signal
asks-again = (refl, refl)

-- after the long wait the neighbour asks, and becomes a child
takes-rival :
    let s = tick false (ticks false 31 (contending true).state) in (s.sends ≡ (0, signal.Child) ∷ [])
    × (s.state.view.phase ≡ ChildShake) × (s.state.view.parent ≡ None)
    × (s.state.view.ports ≡ port level.Parent true false false)
unfolding enter tick on_signal
takes-rival = (refl, refl, refl, refl)

-- ---- coins

-- the bits of 5 and the bits of 5 again
given-five :
    (coin_at 0 (coins_of_bits 5 3) ≡ true) × (coin_at 1 (coins_of_bits 5 3) ≡ false)
    × (coin_at 2 (coins_of_bits 5 3) ≡ true) × (coin_at 3 (coins_of_bits 5 3) ≡ true)
    × (coin_at 4 (coins_of_bits 5 3) ≡ false)
given-five = (refl, refl, refl, refl, refl)

-- the words of PCG's reference run, seed 42 and stream 54, begin a15c02b7 7b47f409 ba1d3330
-- 83d2f293
seeded-42 :
    (coin_at 0 (coins_of_seed 42) ≡ true) × (coin_at 1 (coins_of_seed 42) ≡ false)
    × (coin_at 2 (coins_of_seed 42) ≡ true) × (coin_at 3 (coins_of_seed 42) ≡ true)
seeded-42 = (refl, refl, refl, refl)

-- a pull: the port is free, and nothing goes out on it
unplugged :
    let s = pulled 0 root_named.state in (s.sends ≡ []) × (s.state.view.initiated ≡ true)
    × (s.state.view.phase ≡ ResetStart)
unfolding enter tick on_signal group
unplugged = (refl, refl, refl)

-- ---- which row applies

leaf-rows :
    (next_row (ticks false 254 (start false)) ≡ row.none)
    × (next_row (ticks false 255 (start false)) ≡ row.ends_reset)
    × (next_row (in_tree false) ≡ row.takes_roles) × (next_row (in_tree true) ≡ row.none)
    × (next_row asking ≡ row.awaits_parent)
unfolding enter tick on_signal
leaf-rows = (refl, refl, refl, refl, refl)

contention-rows :
    (next_row (hears signal.Parent (ticks false 1 asking)) ≡ row.begins_contention 0)
    × (next_row (ticks false 30 (contending true).state) ≡ row.none)
    × (next_row (ticks false 31 (contending true).state) ≡ row.takes_rival 0)
    × (next_row (ticks false 11 (hears signal.Idle (contending false).state)) ≡ row.asks_again 0)
unfolding enter tick on_signal
contention-rows = (refl, refl, refl, refl)

naming-rows :
    (next_row accepted.state ≡ row.none)
    × (next_row (hears signal.Grant accepted.state) ≡ row.names_itself)
    × (next_row (ticks false 2 (hears signal.Idle asked.state)) ≡ row.asks_child 0)
    × (next_row informed.state ≡ row.none)
unfolding enter tick on_signal group
naming-rows = (refl, refl, refl, refl)

-- a child that doesn't show Idle is still in its handshake
shaking-row : next_row (hears signal.Child asked.state) ≡ row.none
unfolding enter tick on_signal
shaking-row = refl

-- ---- what is named

-- to forget the phase isn't to forget the grant
grant-counts :
    (x y : NodeState) → x.view.granted ≡ true → y.view.granted ≡ false →
    KeepsBut (name.phase ∷ name.timer ∷ name.marks ∷ []) x y → ⊥
grant-counts x y t f h = let e : true ≡ false = sym t ∙ sym (ap (λ (z : NodeState). z.view.granted) h) ∙ f in cc

-- to forget one port's marks isn't to forget another's
other-port-counts :
    (x : NodeState) → x.view.ports ≡ port level.Parent true true true →
    (without_all (name.child 1 ∷ name.asked 1 ∷ name.named 1 ∷ name.level 1 ∷ name.line 1 ∷ []) x).view.ports
    ≡ x.view.ports
other-port-counts x e = rw e refl

-- a packet before self identify names nothing, and afterwards the list
packet-names :
    (signal_names 0 (signal.Packet 0x807f8082) asking ≡ [])
    × (signal_names 0 (signal.Packet 0x807f8082) granting.state ≡ name.list ∷ [])
unfolding enter tick on_signal
packet-names = (refl, refl)
