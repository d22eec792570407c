use Rattle.std.proofs.Common.{◌≡◌, ◌∙◌, ℕ, List, [], ◌++◌, map, length, drop, sym, ap, arith}
use Rattle.std.proofs.lemmas.List.{append-nil, nil_from_length, length-drop}
use Rattle.port_state.specs.declared.outbox.Sent.{Sent}
use Rattle.port_state.specs.PortSet.{all_sent}
use Rattle.port_state.specs.Sends.{sent_on}
use Rattle.cable_world.specs.Wire.{new_signal}
use Rattle.cable_world.specs.running.Rows.{on_port}
use Rattle.cable_world.proofs.running.Rows.{sent-more}
use Rattle.cable_world.proofs.wire.add_all.Goals as goal

pub returns-then-len-capacity-clause-sent : goal.returns-then-len-capacity-clause-sent
returns-then-len-capacity-clause-sent c = λ p.
    let sends = c.args.sends.now in
    let next = c.push.new.self.items in
    let items = rw c.just_sent.ensures at c.in_ok-push.ensures.items in
    let one : length sends ≡ 1 = omega arith in
    let none : drop 1 sends ≡ [] = nil_from_length (drop 1 sends) (omega (arith, one, length-drop 1 sends)) in
    let more = sent-more p sends 0 c.entry-item.result c.args.sent.now.items next (omega arith) c.entry-item.is items in
    sym (append-nil (on_port p next))
    ∙ ap (λ (es : List Sent). on_port p next ++ map new_signal (sent_on p (all_sent es))) (sym none)
    ∙ more
