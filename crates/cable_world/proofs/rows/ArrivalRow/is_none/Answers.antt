use Rattle.std.proofs.Common.{◌≤◌, length, subst, rules}
use Rattle.cable_world.specs.running.Rest.{AreNone}
use Rattle.cable_world.proofs.running.Rows.{no-arrivals}
use Rattle.cable_world.proofs.rows.ArrivalRow.is_none.Goals as goal

pub returns : goal.returns
returns c = λ empty.
    let none : length c.self.inside.sent.items ≤ 0 = search rules in
    subst AreNone c.self.view_is (no-arrivals c.self.inside.ports c.self.inside.sent.items none)
