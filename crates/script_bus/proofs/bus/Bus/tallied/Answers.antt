use Rattle.std.proofs.Common.{◌∙◌, sym, ap, subst}
use Rattle.std.specs.Prelude.{IsFalse}
use Rattle.cable_world.specs.World.{CableWorld}
use Rattle.script_bus.specs.Running.{IsBus, bus_now}
use Rattle.script_bus.proofs.bus.Bus.tallied.Goals as goal

pub invariant_of-result : goal.invariant_of-result
invariant_of-result g c =
    let notes = c.self.inside.notes.value in
    record {
      bus = subst (λ (w : CableWorld). IsBus (bus_now w notes)) (sym c.tally_boxed.ensures.same) c.self.invariant.bus;
      fine = subst IsFalse (sym c.tally_boxed.ensures.spent) c.self.invariant.fine;
    }

pub returns : goal.returns
returns g c = ap (λ (w : CableWorld). bus_now w c.self.inside.notes.value) c.tally_boxed.ensures.same ∙ c.self.view_is
