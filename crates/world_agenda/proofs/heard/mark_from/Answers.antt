use Rattle.std.proofs.Common.{◌≡◌, ◌∙◌, ◌+◌, ◌<◌, ◌≤◌, ℕ, List, [], Option, Some, None, length, get_or, ap, sym, subst, arith, inl, inr}
use Rattle.std.specs.Prelude.{IfSome}
use Rattle.std.proofs.lemmas.Bool.{cases_eq, cases_lt}
use Rattle.std.proofs.lemmas.List.{get_or_past}
use Rattle.std.proofs.lemmas.Option.{none-some}
use Rattle.cabling.specs.declared.cable.End.{End}
use Rattle.cabling.specs.Wiring.{Wiring, ports_of}
use Rattle.port_state.specs.declared.signal.Signal.{Signal}
use Rattle.world_agenda.specs.declared.heard.Heard.{Heard}
use Rattle.world_agenda.specs.Heard.{IsHeard, StayHeard}
use Rattle.world_agenda.proofs.Hears.{far-end}
use Rattle.world_agenda.proofs.heard.mark_from.Goals as goal

pub mark-requires-clause-node : goal.mark-requires-clause-node
mark-requires-clause-node c =
    let is = c.cables_are_two_ended.ensures in
    subst (λ (o : Option End). IfSome o (λ end. end.node < 63)) (sym c.far.ensures)
    (far-end c.args.cabling.now is _ (λ end. end.node < 63) (λ end there. omega (arith, there.node, is.few_nodes)))

pub mark-requires-clause-port : goal.mark-requires-clause-port
mark-requires-clause-port c =
    let is = c.cables_are_two_ended.ensures in
    subst (λ (o : Option End). IfSome o (λ end. end.port < 16)) (sym c.far.ensures)
    (far-end c.args.cabling.now is _ (λ end. end.port < 16) (λ end there. omega (arith, there.port, is.few_ports end.node there.node)))

-- at the ports before a number what arrives is marked
abbrev Given : Heard → Wiring → ℕ → List (List Signal) → ℕ → Type 0
Given h c node row count =
    (port : ℕ) (end : End) → port < count → get_or (ports_of c node) port None ≡ Some end → (IsHeard h end → ⊥) → get_or row port [] ≡ []

given-next :
    (old new : Heard) (c : Wiring) (node k next : ℕ) (row : List (List Signal)) → StayHeard old new →
    ((port : ℕ) → k ≤ port → port < next → get_or row port [] ≡ []) →
    ((end : End) → get_or (ports_of c node) next None ≡ Some end → IsHeard new end) →
    Given old c node row k → Given new c node row (next + 1)
given-next old new c node k next row kept none marked h port end less e free = elim (cases_eq port next) [
  | inl same ↦ absurd (free (marked end (ap (λ p. get_or (ports_of c node) p None) (sym same) ∙ e)))
  | inr ne ↦ elim (cases_lt port k) [
    | inl before ↦ h port end before e (λ heard. free (kept end heard))
    | inr from ↦ none port from (omega (arith, less, ne))
  ]
]

pub loop-next-preserved : goal.loop-next-preserved
loop-next-preserved c =
    let inv = c.loop-next.invariant in
    let cabling = c.args.cabling.now in
    let new = c.mark.new.self in
    let there = far-end cabling c.cables_are_two_ended.ensures _ (λ end. end.node < length cabling) (λ end is. is.node) in
    record {
      gives = given-next c.loop-next.heard new cabling c.args.node c.loop-next.port c.in-Some.next c.args.row.now c.mark.ensures.kept
          (λ port from less. c.ports-gives.ensures port (c.in-Some.ensures.lowest port from less))
          (λ end e. subst (λ (o : Option End). IfSome o (λ end. IsHeard new end)) (c.far.ensures ∙ e) c.mark.ensures.heard) inv.gives;
      kept = λ end heard. c.mark.ensures.kept end (inv.kept end heard);
      below = c.mark.ensures.below (length cabling)
          (subst (λ (o : Option End). IfSome o (λ end. end.node < length cabling)) (sym c.far.ensures) there) inv.below;
    }

pub returns-in_default-clause-gives : goal.returns-in_default-clause-gives
returns-in_default-clause-gives c port end e free = elim (cases_lt port c.loop-next.port) [
  | inl before ↦ c.loop-next.invariant.gives port end before e free
  | inr from ↦ c.ports-gives.ensures port (c.in_default.ensures.none port from)
]

pub returns-then-next-ports-clause-gives : goal.returns-then-next-ports-clause-gives
returns-then-next-ports-clause-gives c port end e free = elim (cases_lt port c.loop-next.port) [
  | inl before ↦ c.loop-next.invariant.gives port end before e free
  | inr from ↦ elim (cases_lt port c.in-Some.next) [
    | inl less ↦ c.ports-gives.ensures port (c.in-Some.ensures.lowest port from less)
    | inr past ↦
        let none = get_or_past (ports_of c.args.cabling.now c.args.node) port None (omega (arith, past, c.if-next-ports.true, c.ports-ports.ensures.value)) in
        absurd (none-some end (sym none ∙ e))
  ]
]
