use Rattle.std.proofs.Common.{◌≡◌, ◌++◌, ◌<◌, length, take, arith, ◌∙◌, ap, [], ◌∷◌}
use Rattle.std.proofs.lemmas.List.{take_more_set}
use Rattle.port_state.specs.PortSet.{on_ports, all_sent}
use Rattle.port_state.proofs.OnPorts.{one-sent, all_sent-one_more, fits-one_more}
use Rattle.port_state.proofs.outbox.Outbox.push.Goals as goal

pub invariant_of-self : goal.invariant_of-self
invariant_of-self c =
    let there = take c.self.inside.count c.self.inside.entries in
    let one : on_ports c.one.result c.args.signal ≡ (c.args.port, c.args.signal) ∷ [] = one-sent c.args.port c.one.result c.args.signal c.requires.port c.one.ensures in
    let size : length (on_ports c.one.result c.args.signal) ≡ 1 = ap length one in
    let was : length (all_sent there) ≡ length c.args.self.now = ap length c.self.view_is in
    let room : c.self.inside.count < length c.self.inside.entries = omega (arith, was, c.requires.room, c.self.invariant.0) in
    fits-one_more c.self.inside.count there _ (record { ports = c.one.result; signal = c.args.signal })
    (take_more_set c.self.inside.entries c.self.inside.count (record { ports = c.one.result; signal = c.args.signal }) room)
    c.self.invariant.0 (omega (arith, size)) (omega (arith, size, was, c.requires.room))

pub returns : goal.returns
returns c =
    let there = take c.self.inside.count c.self.inside.entries in
    let one : on_ports c.one.result c.args.signal ≡ (c.args.port, c.args.signal) ∷ [] = one-sent c.args.port c.one.result c.args.signal c.requires.port c.one.ensures in
    let was : length (all_sent there) ≡ length c.args.self.now = ap length c.self.view_is in
    let room : c.self.inside.count < length c.self.inside.entries = omega (arith, was, c.requires.room, c.self.invariant.0) in
    ap all_sent (take_more_set c.self.inside.entries c.self.inside.count (record { ports = c.one.result; signal = c.args.signal }) room)
    ∙ all_sent-one_more there (record { ports = c.one.result; signal = c.args.signal })
    ∙ ap (λ ys. all_sent there ++ ys) one
    ∙ ap (λ ys. ys ++ (c.args.port, c.args.signal) ∷ []) c.self.view_is
