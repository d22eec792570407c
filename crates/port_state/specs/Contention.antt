-- Root contention: two neighbours ask each other to be parent. The way from T2 into T3 (Root
-- contention), with a coin, and the rows of T3.
use Rattle.std.specs.Prelude.{ℕ, ◌+◌, ◌^◌, Bool, true, false, ◌&&◌, min, [], ◌∷◌, nat_le, nat_lt, bit_or, Option, Some, None, if◌then◌else◌}
use Rattle.port_state.specs.declared.signal.Phase.{Phase}
use Rattle.port_state.specs.declared.signal.Phase.TheVariants.{ChildShake, ParentShake, Contend}
use Rattle.port_state.specs.declared.signal.Signal.TheVariants as signal
use Rattle.port_state.specs.declared.states.NodeState.{NodeState}
use Rattle.port_state.specs.Ports.{PortNumber, is_parent, port_is}
use Rattle.port_state.specs.Step.{Step}
use Rattle.port_state.specs.Entry.{with_port}
use Rattle.port_state.specs.Row as row
use Rattle.port_state.specs.Row.{Row}

-- the parent port, if any, shows Parent
abbrev pub parent_asks : Option ℕ → NodeState → Bool
parent_asks None x = false
parent_asks (Some parent) x = port_is (λ p. is_parent p.shown) x.view.ports parent

abbrev pub has_rival_in : Phase → NodeState → Bool
has_rival_in ParentShake x = parent_asks x.view.parent x
has_rival_in phase x = false

-- a node in T2 whose parent port shows Parent
abbrev pub has_rival : NodeState → Bool
has_rival x = has_rival_in x.view.phase x

-- the draws with one more coin: the first 32 are kept, number j as bit j
abbrev pub draws_with : Bool → ℕ → ℕ → ℕ
draws_with coin draws first = if coin && nat_lt draws 32 then bit_or first (2 ^ draws) else first

-- T2 to T3: the parent port shows Parent, so both neighbours asked; a coin is drawn, and the wait
-- is long for 1 and short for 0
abbrev pub begins_contention : Bool → PortNumber → NodeState → Step
begins_contention coin parent x = record {
  state = record x {
    view = record x.view {
      phase = Contend;
      timer = 0;
      wait = if coin then x.timing.long else x.timing.short;
      draws = min (x.view.draws + 1) 65535;
      first_draws = draws_with coin x.view.draws x.view.first_draws;
    };
  };
  sends = (parent, signal.Idle) ∷ [];
}

-- T3 to T1: the neighbour asks again, so it becomes a child
abbrev pub takes_rival : PortNumber → NodeState → Step
takes_rival rival x = record {
  state = record x {
    view = record x.view {
      phase = ChildShake;
      ports = (with_port rival (λ p. record p { child = true }) x).view.ports;
      parent = None;
    };
  };
  sends = (rival, signal.Child) ∷ [];
}

-- T3 to T2: the neighbour doesn't, so this node asks again
abbrev pub asks_again : PortNumber → NodeState → Step
asks_again rival x = record {
  state = record x { view = record x.view { phase = ParentShake } };
  sends = (rival, signal.Parent) ∷ [];
}

abbrev pub contend_at : Option PortNumber → NodeState → Row
contend_at None x = row.none
contend_at (Some rival) x =
    if port_is (λ p. is_parent p.shown) x.view.ports rival then row.takes_rival rival
    else row.asks_again rival

-- T3: when the wait is over
abbrev pub contend_row : NodeState → Row
contend_row x = if nat_le x.view.wait x.view.timer then contend_at x.view.parent x else row.none
