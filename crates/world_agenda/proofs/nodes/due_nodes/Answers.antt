use Rattle.std.proofs.Common.{◌∙◌, ◌≡◌, ◌+◌, ℕ, map, get_or, ap, sym, subst, arith, inl, inr}
use Rattle.std.proofs.lemmas.Bool.{cases_eq}
use Rattle.std.proofs.lemmas.List.{length-map, get_or-map}
use Rattle.cabling.specs.NodeSet.{Holds}
use Rattle.cabling.proofs.Lemmas.{none_of_zero}
use Rattle.world_agenda.specs.declared.node.AgendaNode.{AgendaNode}
use Rattle.world_agenda.proofs.nodes.due_nodes.Goals as goal

pub loop-at-init : goal.loop-at-init
loop-at-init g c = record {
  below = λ k has. absurd (none_of_zero k (subst (λ (n : ℕ). Holds n k) c.none-due.ensures has));
  idles = λ k less out. absurd (omega (arith, less));
}

pub loop-at-preserved : goal.loop-at-preserved
loop-at-preserved g c =
    let ends : AgendaNode g.row.M.Denot g.M.PortMachine → ℕ = λ n. n.clock + n.idle in
    let at = c.loop-at.at in
    let inv = c.loop-at.invariant in
    let note = c.note_due-next.ensures in
    record {
      below = λ k has. elim (cases_eq k at) [
        | inl e ↦ omega (arith, e)
        | inr ne ↦ let less = inv.below k ((note.others k ne).0 has) in omega (arith, less)
      ];
      idles = λ k less out. elim (cases_eq k at) [
        | inl e ↦
            let off : Holds c.note_due-next.new.due at → ⊥ = λ has. out (subst (λ (i : ℕ). Holds c.note_due-next.new.due i) (sym e) has) in
            let m = c.index-nodes-at.result in
            let here : get_or (map ends c.args.nodes.now) at 0 ≡ ends m = get_or-map ends c.args.nodes.now at m 0 c.loop-at-test.true ∙ ap ends (sym c.index-nodes-at.is) in
            let idle = note.idle off in
            let low = note.end off in
            rw (e, here) (omega (arith, idle, c.end.ensures), omega (arith, low, c.end.ensures))
        | inr ne ↦
            let had = inv.idles k (omega (arith, less, ne)) (λ has. out ((note.others k ne).1 has)) in
            (had.0, omega (arith, had.1, note.next))
      ];
    }

pub returns-clause-due : goal.returns-clause-due
returns-clause-due g c =
    let ends : AgendaNode g.row.M.Denot g.M.PortMachine → ℕ = λ n. n.clock + n.idle in
    λ k inside out. (c.loop-at.invariant.idles k (omega (arith, inside, length-map c.args.nodes.now ends, c.loop-at-test.false)) out).0

pub returns-clause-later : goal.returns-clause-later
returns-clause-later g c =
    let ends : AgendaNode g.row.M.Denot g.M.PortMachine → ℕ = λ n. n.clock + n.idle in
    λ k inside out. (c.loop-at.invariant.idles k (omega (arith, inside, length-map c.args.nodes.now ends, c.loop-at-test.false)) out).1
