use Rattle.std.proofs.Common.{◌≡◌, ◌∙◌, ◌+◌, ◌<◌, ℕ, List, [], Option, Some, None, length, get_or, ap, sym, subst, arith, inl, inr, ◌∷◌, refl}
use Rattle.std.specs.Prelude.{IfSome}
use Rattle.std.proofs.lemmas.Bool.{cases_eq, cases_lt}
use Rattle.std.proofs.lemmas.List.{get_or_past}
use Rattle.std.proofs.lemmas.Option.{none-some}
use Rattle.cabling.specs.declared.cable.End.{End}
use Rattle.cabling.specs.NodeSet.{Holds, IsWithin}
use Rattle.cabling.specs.Wiring.{Wiring, ports_of}
use Rattle.cable_world.specs.declared.wire.Travelling.{Travelling}
use Rattle.cable_world.specs.Wire.{Wire, empty_wire}
use Rattle.world_agenda.proofs.Hears.{far-end}
use Rattle.world_agenda.proofs.heard.mark_awaiting.Goals as goal

pub mark_far-requires : goal.mark_far-requires
mark_far-requires c =
    let is = c.cables_are_two_ended.ensures in
    subst (λ (o : Option End). IfSome o (λ end. end.node < 63)) (sym c.far.ensures)
    (far-end c.args.cabling.now is _ (λ end. end.node < 63) (λ end there. omega (arith, there.node, is.few_nodes)))

-- at the ports before a number nothing is under way to nodes that aren't taken
abbrev Sent : ℕ → Wiring → ℕ → List Wire → ℕ → Type 0
Sent set c node row count =
    (port : ℕ) (end : End) → port < count → get_or (ports_of c node) port None ≡ Some end → (Holds set end.node → ⊥) →
    (get_or row port empty_wire).signals ≡ []

none-there : (ts : List Travelling) → (0 < length ts → ⊥) → ts ≡ []
none-there [] h = refl
none-there (t ∷ ts) h = absurd (h (omega arith))

sent-next :
    (old new : ℕ) (c : Wiring) (node k count : ℕ) (row : List Wire) → IsWithin old new →
    count ≡ length (get_or row k empty_wire).signals →
    (0 < count → (end : End) → get_or (ports_of c node) k None ≡ Some end → Holds new end.node) →
    Sent old c node row k → Sent new c node row (k + 1)
sent-next old new c node k count row kept counted marked h port end less e free = elim (cases_eq port k) [
  | inl same ↦
      subst (λ (p : ℕ). (get_or row p empty_wire).signals ≡ []) (sym same)
      (none-there (get_or row k empty_wire).signals
      (λ some. free (marked (omega (arith, some, counted)) end (ap (λ (p : ℕ). get_or (ports_of c node) p None) (sym same) ∙ e))))
  | inr ne ↦ h port end (omega (arith, less, ne)) e (λ has. free (kept end.node has))
]

pub loop-port-preserved : goal.loop-port-preserved
loop-port-preserved c =
    let inv = c.loop-port.invariant in
    let cabling = c.args.cabling.now in
    let new = c.mark_far.new.nodes in
    record {
      sends = sent-next c.loop-port.nodes new cabling c.args.node c.loop-port.port c.count.result c.args.row.now c.mark_far.ensures.kept c.count.ensures
          (λ some end e. subst (λ (o : Option End). IfSome o (λ end. Holds new end.node)) (c.far.ensures ∙ e) (c.mark_far.ensures.holds some)) inv.sends;
      kept = λ node has. c.mark_far.ensures.kept node (inv.kept node has);
    }

pub returns-clause-sends : goal.returns-clause-sends
returns-clause-sends c port end e free = elim (cases_lt port c.loop-port.port) [
  | inl before ↦ c.loop-port.invariant.sends port end before e free
  | inr from ↦
      let none = get_or_past (ports_of c.args.cabling.now c.args.node) port None (omega (arith, from, c.loop-port-test.false, c.ports-port-end.ensures.value)) in
      absurd (none-some end (sym none ∙ e))
]
