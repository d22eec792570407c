use Rattle.std.proofs.Common.{◌≡◌, ℕ, zero, suc, List, [], ◌∷◌, get_or, refl, ap, arith}
use Rattle.std.proofs.lemmas.List.Elements.{All-tail}
use Rattle.cable_world.specs.Wire.{Wire, empty_wire}
use Rattle.cable_world.specs.running.Rest.{AreAtRest}
use Rattle.world_agenda.proofs.heard.awaiting.Goals as goal

none-sent : (row : List Wire) (port : ℕ) → AreAtRest row → (get_or row port empty_wire).signals ≡ []
none-sent [] port h = refl
none-sent (w ∷ row) zero h = ap (λ (v : Wire). v.signals) (h 0 w (omega arith))
none-sent (w ∷ row) (suc port) h = none-sent row port (All-tail (λ (v : Wire). v ≡ empty_wire) w row h)

pub loop-node-init : goal.loop-node-init
loop-node-init c = record {
  left = λ k has. has;
  sends = λ k out port end e free. none-sent (get_or c.args.wires.now k []) port (c.requires.rest k out);
}

pub returns : goal.returns
returns c = λ node. c.loop-node.invariant.sends node (c.in_default.ensures.none node)
