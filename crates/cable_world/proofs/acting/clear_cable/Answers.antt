use Rattle.std.proofs.Common.{inl, inr}
use Rattle.cable_world.proofs.running.Touched.{kept-set, kept-then}
use Rattle.cable_world.proofs.acting.clear_cable.Goals as goal

pub returns-clause-others : goal.returns-clause-others
returns-clause-others c =
    kept-then _ _ _ _ _ _ (λ k e. inl e) (λ k e. inr e) (kept-set c.args.a.node c.args.wires.now c.clear.new.self)
    (kept-set c.args.b.node _ c.clear-2.new.self)
