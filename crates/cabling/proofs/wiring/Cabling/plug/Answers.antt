use Rattle.std.proofs.Common.{sym, ◌∙◌}
use Rattle.cabling.proofs.Plugging.{plugs}
use Rattle.cabling.proofs.wiring.Cabling.plug.Goals as goal

pub invariant_of-self : goal.invariant_of-self
invariant_of-self c = (plugs c.self.inside.nodes.items c.args.a c.args.b c.index_mut.result.now c.set.new.self c.index_mut-in-None.result.now c.set-in-None.new.self c.self.invariant (rw c.self.view_is (sym c.plug_fault.ensures ∙ c.in-None.is)) c.index_mut.ensures.value c.set.ensures c.index_mut-in-None.ensures.value c.set-in-None.ensures).cabling

pub returns-in-None-clause-added : goal.returns-in-None-clause-added
returns-in-None-clause-added c = rw (← c.self.view_is) (plugs c.self.inside.nodes.items c.args.a c.args.b c.index_mut.result.now c.set.new.self c.index_mut-in-None.result.now c.set-in-None.new.self c.self.invariant (rw c.self.view_is (sym c.plug_fault.ensures ∙ c.in-None.is)) c.index_mut.ensures.value c.set.ensures c.index_mut-in-None.ensures.value c.set-in-None.ensures).added
