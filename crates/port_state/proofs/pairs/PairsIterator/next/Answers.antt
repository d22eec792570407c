use Rattle.std.proofs.Common.{◌≡◌, ◌++◌, [], refl, ap, sym, ◌∙◌, length, arith}
use Rattle.std.proofs.lemmas.Grind.{common_steps}
use Rattle.std.proofs.lemmas.List.{nil_from_length}
use Rattle.port_state.specs.PortSet.{on_ports, all_sent}
use Rattle.port_state.proofs.OnPorts.{lowest-sent, none-sent}
use Rattle.port_state.proofs.pairs.PairsIterator.next.Goals as goal

pub returns-in_default-clause-steps : goal.returns-in_default-clause-steps
returns-in_default-clause-steps c =
    let none = none-sent c.loop-first.self-inside.ports c.loop-first.self-inside.signal (c.is_none.ensures.0 c.loop-first-test.true) in
    let left : on_ports c.loop-first.self-inside.ports c.loop-first.self-inside.signal ++ all_sent c.loop-first.self-inside.entries.now ≡ [] =
    rw (none, nil_from_length c.loop-first.self-inside.entries.now c.in_default.ensures.cases) refl
    in
    (sym c.self.view_is ∙ sym c.loop-first.invariant ∙ left, left)

pub loop-first-preserved : goal.loop-first-preserved
loop-first-preserved c =
    let none = none-sent c.loop-first.self-inside.ports c.loop-first.self-inside.signal (c.is_none.ensures.0 c.loop-first-test.true) in
    sym (ap (λ xs. xs ++ all_sent c.loop-first.self-inside.entries.now) none ∙ ap all_sent c.in-Some.ensures.cases.0)
    ∙ c.loop-first.invariant

pub returns-clause-steps : goal.returns-clause-steps
returns-clause-steps c =
    sym c.self.view_is ∙ sym c.loop-first.invariant
    ∙ ap (λ xs. xs ++ all_sent c.loop-first.self-inside.entries.now)
    (lowest-sent c.in_ok-port.port c.loop-first.self-inside.ports c.remove.new.self c.loop-first.self-inside.signal c.in_ok-port.ensures.held c.in_ok-port.ensures.lowest c.remove.ensures)

pub returns-clause-goes : goal.returns-clause-goes
returns-clause-goes c = let fewer = ap length (returns-clause-steps c) in grind (arith, common_steps, fewer)
