use Rattle.std.proofs.Common.{◌≡◌, ◌∙◌, ℕ, List, [], ◌∷◌, true, not, length, refl, sym, arith}
use Rattle.std.proofs.lemmas.Bool.{and_parts}
use Rattle.std.proofs.lemmas.Bool.Decides.{nat_tests}
use Rattle.std.specs.Prelude.{is_some, ◌==◌, map}
use Rattle.phy_machine.specs.declared.any.AnyMachine.{AnyMachine}
use Rattle.phy_machine.specs.Any.{any_node}
use Rattle.cable_world.specs.World.{slack_of}
use Rattle.script_told.specs.Script.{takes_times}
use Rattle.script_told.proofs.Lemmas.{standard-fits}
use Rattle.script_run.specs.codings.Declaring.{draft_now}
use Rattle.script_run.proofs.draft.Draft.say_times.Goals as goal

nothing : (n : ℕ) → (n == 0) ≡ true → n ≡ 0
nothing n h = grind (arith, nat_tests)

-- no machine has a slow clock
none-slow : (machines : List AnyMachine) → length machines ≡ 0 → slack_of (map any_node machines) ≡ 0
none-slow [] e = refl
none-slow (m ∷ machines) e = absurd (omega (arith, e))

pub returns-clause-sound : goal.returns-clause-sound
returns-clause-sound c =
    let old = c.requires.sound in
    let self = c.args.self.now in
    let may : takes_times (draft_now self) ≡ true = sym c.takes_times.ensures ∙ c.if-not-takes_times.false in
    let new = and_parts (length self.names == 0) (not (is_some self.times.nanoseconds)) may in
    let none : length self.names ≡ 0 = nothing (length self.names) new.0 in
    let machines = self.machines.items in
    let fit = standard-fits c.args.standard self.delay c.args.nanoseconds c.in_ok-self.field-0 c.requires.some (sym c.in_ok-self.ensures) in
    let empty = none-slow machines (sym old.named ∙ none) in
    record {
      some_delay = old.some_delay;
      short_delay = old.short_delay;
      ranges = fit;
      forced = record { enough = omega (arith, fit.suitable.force, old.slack, empty) };
      slack = old.slack;
      few = old.few;
      named = old.named;
      nodes = λ i m inside. absurd (omega (arith, inside, old.named, none));
    }
