use Rattle.std.proofs.Common.{◌≡◌, ◌<◌, ◌++◌, [], length, take, arith, sym, ◌∙◌, ap}
use Rattle.std.proofs.lemmas.Bool.{both_ways}
use Rattle.std.proofs.lemmas.List.{append-nil, take_more_set}
use Rattle.port_state.specs.PortSet.{on_ports, all_sent}
use Rattle.port_state.proofs.OnPorts.{none-sent, some-sent, all_sent-one_more, fits-one_more}
use Rattle.port_state.proofs.outbox.Outbox.push_on.Goals as goal

pub listed : goal.listed
listed c =
    let some = some-sent c.args.ports c.args.signal (λ none. both_ways c.is_none.result c.if-not-is_none.true (c.is_none.ensures.1 none)) in
    omega (arith, some, ap length c.self.view_is, c.requires, c.self.invariant.0)

pub bounds-self-inside-self-inside : goal.bounds-self-inside-self-inside
bounds-self-inside-self-inside c =
    let some = some-sent c.args.ports c.args.signal (λ none. both_ways c.is_none.result c.if-not-is_none.true (c.is_none.ensures.1 none)) in
    omega (arith, some, ap length c.self.view_is, c.requires, c.self.invariant.0)

pub invariant_of-self : goal.invariant_of-self
invariant_of-self c =
    let there = take c.self.inside.count c.self.inside.entries in
    let some : 0 < length (on_ports c.args.ports c.args.signal) = some-sent c.args.ports c.args.signal (λ none. both_ways c.is_none.result c.if-not-is_none.true (c.is_none.ensures.1 none)) in
    let was : length (all_sent there) ≡ length c.args.self.now = ap length c.self.view_is in
    let room : c.self.inside.count < length c.self.inside.entries = omega (arith, some, was, c.requires, c.self.invariant.0) in
    fits-one_more c.self.inside.count there _ (record { ports = c.args.ports; signal = c.args.signal })
    (take_more_set c.self.inside.entries c.self.inside.count (record { ports = c.args.ports; signal = c.args.signal }) room)
    c.self.invariant.0 some (omega (arith, was, c.requires))

pub returns-then-not-is_none : goal.returns-then-not-is_none
returns-then-not-is_none c =
    let there = take c.self.inside.count c.self.inside.entries in
    let some = some-sent c.args.ports c.args.signal (λ none. both_ways c.is_none.result c.if-not-is_none.true (c.is_none.ensures.1 none)) in
    let room : c.self.inside.count < length c.self.inside.entries = omega (arith, some, ap length c.self.view_is, c.requires, c.self.invariant.0) in
    ap all_sent (take_more_set c.self.inside.entries c.self.inside.count (record { ports = c.args.ports; signal = c.args.signal }) room)
    ∙ all_sent-one_more there (record { ports = c.args.ports; signal = c.args.signal })
    ∙ ap (λ ys. ys ++ on_ports c.args.ports c.args.signal) c.self.view_is

pub returns-else-not-is_none : goal.returns-else-not-is_none
returns-else-not-is_none c =
    let none : on_ports c.args.ports c.args.signal ≡ [] = none-sent c.args.ports c.args.signal (c.is_none.ensures.0 c.if-not-is_none.false) in
    sym (ap (λ ys. c.args.self.now ++ ys) none ∙ append-nil c.args.self.now)
