-- Facts of phases, each of which holds phase by phase.
use Rattle.std.proofs.Common.{◌≡◌, Bool, true, false, arith}
use Rattle.port_state.specs.declared.signal.Level.TheVariants as level
use Rattle.port_state.specs.declared.signal.Phase.{Phase}
use Rattle.port_state.specs.declared.signal.Phase.TheVariants.{Contend}
use Rattle.port_state.specs.Heard.{is_resetting, hears_packets}
use Rattle.cable_world.specs.Agreement.{level_sent}
use Rattle.cable_world.specs.Phases.{is_before_tree, is_after_hold, is_in_bus_reset, is_shaking, is_timed, slack}

-- ---- which phases are which

pub start-timed : (h : Phase) → is_resetting h ≡ true → is_timed h ≡ true
start-timed h r = grind arith

pub start-slack : (h : Phase) → is_resetting h ≡ true → slack h ≡ 1
start-slack h r = grind arith

pub start-before_tree : (h : Phase) → is_resetting h ≡ true → is_before_tree h ≡ true
start-before_tree h r = grind arith

pub start-bus_reset : (h : Phase) → is_resetting h ≡ true → is_in_bus_reset h ≡ true
start-bus_reset h r = grind arith

pub start-hold : (h : Phase) → is_resetting h ≡ true → is_after_hold h ≡ true → ⊥
start-hold h a b = grind arith

pub start-contend : (h : Phase) → is_resetting h ≡ true → h ≡ Contend → ⊥
start-contend h a b = grind arith

pub after_hold-before_tree : (h : Phase) → is_after_hold h ≡ true → is_before_tree h ≡ true
after_hold-before_tree h e = grind arith

pub bus_reset-before_tree : (h : Phase) → is_in_bus_reset h ≡ true → is_before_tree h ≡ true
bus_reset-before_tree h e = grind arith

pub contend-late : (h : Phase) → h ≡ Contend → is_before_tree h ≡ false
contend-late h e = grind arith

pub timed-relays_none : (h : Phase) → is_timed h ≡ true → hears_packets h ≡ false
timed-relays_none h e = grind arith

-- ---- which levels are sent in them

pub start-sent :
    (h : Phase) (child : Bool) → is_resetting h ≡ true → level_sent h child ≡ level.Reset
start-sent h c e = grind arith

pub reset-sent :
    (h : Phase) (child : Bool) → is_resetting h ≡ false → level_sent h child ≡ level.Reset → ⊥
reset-sent h c e r = grind arith

pub contend-sent :
    (h : Phase) → h ≡ Contend → (child : Bool) → child ≡ false → level_sent h child ≡ level.Idle
contend-sent h e c f = grind arith

pub parent-shaking :
    (h : Phase) (child : Bool) → level_sent h child ≡ level.Parent → is_shaking h ≡ true
parent-shaking h c o = grind arith

pub parent-late :
    (h : Phase) (child : Bool) → level_sent h child ≡ level.Parent → is_before_tree h ≡ false
parent-late h c o = grind arith

pub parent-childless :
    (h : Phase) (child : Bool) → level_sent h child ≡ level.Parent → child ≡ false
parent-childless h c o = grind arith

pub before_tree-parent :
    (h : Phase) (child : Bool) → is_before_tree h ≡ true → level_sent h child ≡ level.Parent → ⊥
before_tree-parent h c a b = grind arith
