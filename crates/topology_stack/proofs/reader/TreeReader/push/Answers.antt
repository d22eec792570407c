use Rattle.std.proofs.Common.{lit<, sym}
use Rattle.topology_stack.proofs.Streaming.{kept_list, stops_with, room_left}
use Rattle.topology_stack.proofs.reader.TreeReader.push.Goals as goal

pub returns-in-Some-clause-list : goal.returns-in-Some-clause-list
returns-in-Some-clause-list c = λ l s.
    let stop = c.in-Some.ensures.fault c.args.quad in
    stops_with c.self.inside.quads.items l c.args.quad c.in-Some.fault (kept_list c.args.self.now c.self.inside.quads.items c.self.inside.fault l c.self.view_is (sym c.if-is_some.ensures) s) (rw c.deref.ensures.0 at stop)

pub push-requires : goal.push-requires
push-requires c =
    let ends = c.in_default.ensures.none c.args.quad in
    (lit< tt, room_left c.self.inside.quads.items c.args.quad c.self.inside.place (rw c.deref.ensures.0 at ends))
