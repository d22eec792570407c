-- A step of one node between two turns.
use Rattle.std.proofs.Common.{◌≡◌, ℕ, true, List, [], ◌==◌, length, inr, refl, sym, ◌∙◌, ap, if◌then◌else◌}
use Rattle.port_state.specs.declared.states.NodeState.{NodeState}
use Rattle.port_state.specs.Entry.{enter}
use Rattle.port_state.specs.Machine.{PortNode, after_step}
use Rattle.cable_world.specs.Turn.{same_list}
use Rattle.cable_world.proofs.running.Lists.{seen-by-length}

-- a reset empties the list, so whether it changed is seen from its length
enter-empties : (x : NodeState) → (enter true x).state.list.items ≡ []
unfolding enter
enter-empties x = refl

pub reset-seen :
    (n y : PortNode) (x : NodeState) (before after : List ℕ) (c last turns : ℕ) →
    before ≡ n.state.list.items → after ≡ y.state.list.items → y ≡ (after_step n (enter true x)).node →
    c ≡ (if length before == length after then last else turns) → c ≡ (if same_list n y then last else turns)
reset-seen n y x before after c last turns b a made h =
    h
    ∙ ap (λ t. if t then last else turns) (
    ap (λ l. length l == length after) b
    ∙ ap (λ l. length n.state.list.items == length l) a
    ∙ sym (seen-by-length n.state.list.items y.state.list.items (inr (ap (λ (z : PortNode). z.state.list.items) made ∙ enter-empties x))))
