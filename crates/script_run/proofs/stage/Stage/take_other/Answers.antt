use Rattle.std.proofs.Common.{inl, refl}
use Rattle.script_told.specs.Script.{ranges_of}
use Rattle.script_run.proofs.stage.Stage.take_other.Goals as goal

pub returns-then-says_nothing-clause-done : goal.returns-then-says_nothing-clause-done
returns-then-says_nothing-clause-done g c =
    inl (c.says_nothing.ensures.nothing c.if-says_nothing.true (ranges_of c.args.self.now), refl, refl, refl)
