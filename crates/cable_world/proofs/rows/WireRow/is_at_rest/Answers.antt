use Rattle.std.proofs.Common.{◌≤◌, length, subst, rules}
use Rattle.cable_world.specs.running.Rest.{AreAtRest}
use Rattle.cable_world.proofs.running.Rows.{at-rest}
use Rattle.cable_world.proofs.rows.WireRow.is_at_rest.Goals as goal

pub returns-then-not-self : goal.returns-then-not-self
returns-then-not-self c = λ empty.
    let row = c.self.inside in
    let none : length row.sent.items ≤ 0 = search rules in
    subst AreAtRest c.self.view_is (at-rest row.sent.items row.held.items none (row.free c.if-not-self.true))
