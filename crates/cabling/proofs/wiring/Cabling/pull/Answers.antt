use Rattle.std.proofs.Common.{arith, sym, ◌∙◌}
use Rattle.cabling.proofs.Plugging.{pulls, other_there, other_port}
use Rattle.cabling.proofs.wiring.Cabling.pull.Goals as goal

pub index_mut-requires-2 : goal.index_mut-requires-2
index_mut-requires-2 c = omega (arith, (other_there c.self.inside.nodes.items c.args.end c.in-Some.other c.self.invariant (rw c.self.view_is (sym c.far.ensures ∙ c.in-Some.is))).node)

pub set-requires-2 : goal.set-requires-2
set-requires-2 c = other_port c.self.inside.nodes.items c.args.end c.in-Some.other c.index_mut-2.result.now c.set.new.self c.self.invariant (rw c.self.view_is (sym c.far.ensures ∙ c.in-Some.is)) c.index_mut-2.ensures.value

pub invariant_of-self : goal.invariant_of-self
invariant_of-self c = (pulls c.self.inside.nodes.items c.args.end c.in-Some.other c.index_mut.result.now c.set.new.self c.index_mut-2.result.now c.set-2.new.self c.self.invariant (rw c.self.view_is (sym c.far.ensures ∙ c.in-Some.is)) c.index_mut.ensures.value c.set.ensures c.index_mut-2.ensures.value c.set-2.ensures).cabling

pub returns-clause-taken : goal.returns-clause-taken
returns-clause-taken c = rw (← c.self.view_is) (pulls c.self.inside.nodes.items c.args.end c.in-Some.other c.index_mut.result.now c.set.new.self c.index_mut-2.result.now c.set-2.new.self c.self.invariant (rw c.self.view_is (sym c.far.ensures ∙ c.in-Some.is)) c.index_mut.ensures.value c.set.ensures c.index_mut-2.ensures.value c.set-2.ensures).taken
