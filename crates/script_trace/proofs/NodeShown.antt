-- The lines of a node stand among those of all nodes.
use Rattle.std.proofs.Common.{◌≡◌, ◌++◌, ◌+◌, ℕ, Bool, zero, suc, List, [], ◌∷◌, Some, map, slice_get, sym, ◌∙◌, ap, arith}
use Rattle.std.specs.Prelude.{codes}
use Rattle.std.proofs.lemmas.List.{append_assoc}
use Rattle.cable_world.proofs.Lemmas.{some-same}
use Rattle.cable_world.specs.World.{CableWorld}
use Rattle.cable_world.specs.Turn.{turn, turn_at}
use Rattle.cable_world.specs.ByNumber.{NodesTakeTurns}
use Rattle.port_state.specs.Machine.{PortNode}
use Rattle.script_text.specs.ReportText.{Names}
use Rattle.script_trace.specs.Event.{Seen, head, line_of, miss_line, changed_lines, node_lines}
use Rattle.script_trace.specs.Step.{all_lines, seen_before_turn, seen_before_act, node_before_act, turn_lines, act_lines}
use Rattle.script_trace.specs.NodeShown.{StandIn, TurnsShowEachNode, MissedTurnsAreShown, ActsShowEachNode}

among :
    (names : Names) (w : CableWorld) (first i k : ℕ) (seen : List Seen) (nodes : List PortNode) (s : Seen) (x : PortNode) →
    k ≡ first + i → slice_get seen i ≡ Some s → slice_get nodes i ≡ Some x →
    StandIn (node_lines names w k s x.state.view) (all_lines names w first seen nodes)
among names w first i k [] nodes s x at is has = absurd cc
among names w first i k (t ∷ seen) [] s x at is has = absurd cc
among names w first zero k (t ∷ seen) (y ∷ nodes) s x at is has =
    let here : first ≡ k = omega (arith, at) in (
      [],
      all_lines names w (first + 1) seen nodes,
      ap (λ (j : ℕ). node_lines names w j t y.state.view ++ all_lines names w (first + 1) seen nodes) here
          ∙ ap (λ (u : Seen). node_lines names w k u y.state.view ++ all_lines names w (first + 1) seen nodes) (some-same t s is)
          ∙ ap (λ (z : PortNode). node_lines names w k s z.state.view ++ all_lines names w (first + 1) seen nodes) (some-same y x has),
    )
among names w first (suc i) k (t ∷ seen) (y ∷ nodes) s x at is has =
    let rest = among names w (first + 1) i k seen nodes s x (omega (arith, at)) is has in
    let one = node_lines names w first t y.state.view in (
      one ++ rest.0,
      rest.1,
      ap (λ (l : List ℕ). one ++ l) rest.2 ∙ sym (append_assoc one rest.0 (node_lines names w k s x.state.view ++ rest.1)),
    )

before-turn : (nodes : List PortNode) (i : ℕ) (x : PortNode) → slice_get nodes i ≡ Some x →
    slice_get (map seen_before_turn nodes) i ≡ Some (seen_before_turn x)
before-turn [] i x is = absurd cc
before-turn (y ∷ nodes) zero x is = ap (λ (z : PortNode). Some (seen_before_turn z)) (some-same y x is)
before-turn (y ∷ nodes) (suc i) x is = before-turn nodes i x is

pub before-act :
    (w : CableWorld) (first i k : ℕ) (nodes : List PortNode) (x : PortNode) → k ≡ first + i → slice_get nodes i ≡ Some x →
    slice_get (seen_before_act w first nodes) i ≡ Some (node_before_act w k x)
before-act w first i k [] x at is = absurd cc
before-act w first zero k (y ∷ nodes) x at is =
    let here : first ≡ k = omega (arith, at) in
    ap (λ (j : ℕ). Some (node_before_act w j y)) here ∙ ap (λ (z : PortNode). Some (node_before_act w k z)) (some-same y x is)
before-act w first (suc i) k (y ∷ nodes) x at is = before-act w (first + 1) i k nodes x (omega (arith, at)) is

pub turn-shown : NodesTakeTurns → TurnsShowEachNode
unfolding turn_lines
turn-shown nodes names w k x count at =
    among names (turn w) 0 k k (map seen_before_turn w.nodes) (turn w).nodes (seen_before_turn x) (turn_at w k x).node
    (omega arith) (before-turn w.nodes k x at) (nodes w k x count at)

-- the line of a turn that the clock misses is the first of the node
pub missed-shown : NodesTakeTurns → MissedTurnsAreShown
missed-shown nodes names w k x count at late =
    let front = head names (turn w).turns k in
    let changed = changed_lines front (turn w) k (seen_before_turn x) (turn_at w k x).node.state.view in
    let whole = turn-shown nodes names w k x count at in (
      whole.0,
      changed ++ whole.1,
      whole.2
          ∙ ap (λ (b : Bool). whole.0 ++ ((miss_line front b ++ changed) ++ whole.1)) late
          ∙ ap (λ (l : List ℕ). whole.0 ++ l) (append_assoc (line_of front (codes " misses a tick")) changed whole.1),
    )

pub act-shown : ActsShowEachNode
unfolding act_lines
act-shown names w v k x y at now =
    among names v 0 k k (seen_before_act w 0 w.nodes) v.nodes _ y (omega arith) (before-act w 0 k k w.nodes x (omega arith) at) now
