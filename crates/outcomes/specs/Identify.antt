-- Self identify along a child cable: the lists of its two ends, and what is under way between them.
use Rattle.std.specs.Prelude.{◌≡◌, ◌⊎◌, ℕ, ◌+◌, ◌-◌, ◌≤◌, Bool, true, false, not, ◌&&◌, ◌||◌, List, [], ◌∷◌, length, Some, slice_get}
use Rattle.cabling.specs.declared.cable.End.{End}
use Rattle.cabling.specs.Wiring.{far}
use Rattle.port_state.specs.declared.signal.Level.TheVariants as level
use Rattle.port_state.specs.declared.signal.Phase.{Phase}
use Rattle.port_state.specs.declared.signal.Phase.TheVariants.{ChildShake}
use Rattle.port_state.specs.declared.signal.Signal.{Signal}
use Rattle.port_state.specs.declared.signal.Signal.TheVariants as signal
use Rattle.port_state.specs.declared.states.NodeState.{NodeState}
use Rattle.port_state.specs.Ports.{is_port}
use Rattle.port_state.specs.Heard.{is_resetting, hears_packets}
use Rattle.port_state.specs.Machine.{PortNode}
use Rattle.cable_world.specs.declared.wire.Travelling.{Travelling}
use Rattle.cable_world.specs.World.{CableWorld, wire_of}
use Rattle.cable_world.specs.Signals.{signals_of, has_reset, has_no_takeback}
use Rattle.cable_world.specs.Agreement.{level_shown, leads_down}
use Rattle.cable_world.specs.Coupling.{is_asking}
use Rattle.outcomes.specs.NodeMarks.{is_ready, is_asked, is_named, IsMarked}
use Rattle.outcomes.specs.Messages.{silent, quads_in, has_grant, has_done, kept, MessagesSince, parent_mode, child_mode, mode, fits}

-- ---- lists

-- a granted child that isn't named yet speaks; else its parent does
abbrev pub speaks : Bool → Bool → Bool
speaks granted named = granted && not named

-- The state of a child cable, where the parent asked the child, and named it, and the child is
-- granted, and in A0; with the two lists, and what is under way down and up.
pub record Line
    (asked named granted ready : Bool) (above below : List ℕ) (down up : List Signal)
    : Type 0 where
  -- asked, granted, in A0 and named, in this order
  pub grants : granted ≡ true → asked ≡ true
  pub readies : ready ≡ true → granted ≡ true
  pub names : named ≡ true → ready ≡ true
  -- a Grant is under way down from asking to granting, and Done up from A0 to naming
  pub granting : has_grant down ≡ (asked && not granted)
  pub naming : has_done up ≡ (ready && not named)
  -- once all packets have come both have the same list; they are under way one way alone
  pub agree : kept above (quads_in up) ≡ kept below (quads_in down)
  pub no_down : speaks granted named ≡ true → quads_in down ≡ []
  pub no_up : speaks granted named ≡ false → quads_in up ≡ []
  -- what is under way may come
  pub fits_down : fits (parent_mode ready granted) down ≡ true
  pub fits_up : fits (child_mode asked named) up ≡ true
  -- and there is room for it
  pub room_down : length below + length (quads_in down) ≤ 252
  pub room_up : length above + length (quads_in up) ≤ 252

-- of two nodes, the first of which is above
abbrev pub Lined : NodeState → ℕ → List Signal → NodeState → List Signal → Type 0
Lined x p there y back =
    Line (is_asked x p) (is_named x p) y.view.granted (is_ready y.view.phase)
    x.list.items y.list.items there back

-- ---- the two ends of a cable

-- in R0, and in self identify and A0, messages of a node may be under way
abbrev pub may_speak : Phase → Bool
may_speak phase = is_resetting phase || hears_packets phase

abbrev pub is_child_signal : Signal → Bool
is_child_signal signal.Child = true
is_child_signal s = false

abbrev pub any_child : List Signal → Bool
any_child [] = false
any_child (s ∷ ss) = is_child_signal s || any_child ss

-- What is so of a node at one port of a cable, with the signals under way from there, and of the
-- node at the other port, with the signals back: how the two come to self identify.
pub record Greets
    (x : NodeState) (p : ℕ) (there : List Travelling) (y : NodeState) (q : ℕ)
    (back : List Travelling)
    : Type 0 where
  -- a node that asks doesn't take back the Parent that is shown
  pub asks :
      is_asking y q ≡ true → level_shown x p ≡ level.Parent → has_reset (signals_of back) ≡ false →
      has_no_takeback (signals_of back) ≡ true
  -- a child asks until it is in self identify, and after T1 of its parent it is
  pub greeted :
      leads_down x.view.ports p ≡ true → has_reset (signals_of back) ≡ false →
      ((is_asking y q ≡ true) × (level_shown x p ≡ level.Parent))
      ⊎ (hears_packets y.view.phase ≡ true)
  pub both :
      leads_down x.view.ports p ≡ true → has_reset (signals_of back) ≡ false →
      (x.view.phase ≡ ChildShake) ⊎ (hears_packets y.view.phase ≡ true)
  -- a node that says Child has a child port, and a parent port in self identify leads to one
  pub says_shown :
      has_reset (signals_of back) ≡ false → level_shown x p ≡ level.Child →
      leads_down y.view.ports q ≡ true
  pub says :
      has_reset (signals_of back) ≡ false → any_child (signals_of back) ≡ true →
      leads_down y.view.ports q ≡ true
  pub accepted :
      hears_packets x.view.phase ≡ true → is_port x.view.parent p ≡ true →
      has_reset (signals_of back) ≡ false → leads_down y.view.ports q ≡ true

-- and what they tell each other then
pub record Identifies
    (d : ℕ) (x : NodeState) (p : ℕ) (there : List Travelling) (y : NodeState) (q : ℕ)
    (back : List Travelling)
    : Type 0 where
  -- from R1 to T3 no message comes from a node, and none to it, from whatever node
  pub quiet : may_speak x.view.phase ≡ false → silent (signals_of there) ≡ true
  pub hushed : may_speak x.view.phase ≡ false → silent (signals_of back) ≡ true
  -- to a node in R0 come such alone as were sent before its Reset arrived
  pub stale : is_resetting x.view.phase ≡ true → MessagesSince (x.view.timer - (d + 1)) back
  -- to one in self identify or A0 come those that fit the port
  pub front : hears_packets x.view.phase ≡ true → fits (mode x p) (signals_of back) ≡ true
  pub room :
      hears_packets x.view.phase ≡ true → length x.list.items + length (quads_in (signals_of back))
      ≤ 252
  -- before the parent is in self identify nothing has begun below it
  pub before :
      leads_down x.view.ports p ≡ true → is_port y.view.parent q ≡ true →
      hears_packets x.view.phase ≡ false → y.view.granted ≡ false
  pub idle :
      leads_down x.view.ports p ≡ true → is_port y.view.parent q ≡ true →
      hears_packets x.view.phase ≡ false → y.list.items ≡ []
  pub line :
      leads_down x.view.ports p ≡ true → is_port y.view.parent q ≡ true →
      hears_packets x.view.phase ≡ true → Lined x p (signals_of there) y (signals_of back)

-- all nodes and all cables
pub record IsIdentifying (w : CableWorld) : Type 0 where
  pub nodes : (k : ℕ) (x : PortNode) → slice_get w.nodes k ≡ Some x → IsMarked x.state
  pub greets :
      (a b : End) (x y : PortNode) → far w.cabling a ≡ Some b → slice_get w.nodes a.node ≡ Some x →
      slice_get w.nodes b.node ≡ Some y →
      Greets x.state a.port (wire_of w a).signals y.state b.port (wire_of w b).signals
  pub cables :
      (a b : End) (x y : PortNode) → far w.cabling a ≡ Some b → slice_get w.nodes a.node ≡ Some x →
      slice_get w.nodes b.node ≡ Some y →
      Identifies w.delay x.state a.port (wire_of w a).signals y.state b.port (wire_of w b).signals
