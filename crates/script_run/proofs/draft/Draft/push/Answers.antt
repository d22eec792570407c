use Rattle.std.proofs.Common.{◌≡◌, ◌+◌, ◌∷◌, ◌++◌, [], true, false, All, length, length-append, arith, sym, subst, ap, ◌∙◌}
use Rattle.std.proofs.lemmas.List.Elements.{All-append, All-cons, All-nil}
use Rattle.std.proofs.lemmas.List.{map-append}
use Rattle.std.specs.Prelude.{map, nat_lt}
use Rattle.std.proofs.lemmas.Bool.Decides.{nat_tests}
use Rattle.port_state.specs.Clock.{is_even}
use Rattle.port_state.specs.Machine.{PortNode}
use Rattle.cable_world.specs.World.{slack_of}
use Rattle.phy_machine.specs.declared.any.AnyMachine.{AnyMachine}
use Rattle.phy_machine.specs.Any.{any_node}
use Rattle.script_text.specs.ReportText.{Names}
use Rattle.script_told.specs.Fitting.{IsFitting}
use Rattle.script_told.proofs.Lemmas.{drafted}
use Rattle.script_run.specs.codings.Declaring.{draft_now}
use Rattle.script_run.proofs.Slowing.{to-sound}
use Rattle.script_run.proofs.draft.Draft.push.Goals as goal

pub returns-clause-sound : goal.returns-clause-sound
returns-clause-sound c =
    let old = c.requires.sound in
    let draft = c.args.self.now in
    let machines = draft.machines.items in
    let one = c.powered_on-machine.result ∷ [] in
    let e = c.in_ok-add_machine.ensures.items in
    let On : AnyMachine → Type 0 = λ m. IsFitting draft.delay draft.times.ranges (any_node m) in
    let longer : length c.add_machine.new.machines.items ≡ length machines + 1 =
    ap length e ∙ length-append machines one in
    let more : length c.in_ok-self.field-0 ≡ length draft.names + 1 =
    ap length (c.in_ok-self.ensures ∙ ap (λ (names : Names). names ++ c.args.node.name ∷ []) c.replace-names.ensures.value)
    ∙ length-append draft.names (c.args.node.name ∷ []) in
    let room : nat_lt 62 (length draft.names) ≡ false = grind (arith, nat_tests, old.named, c.requires.few) in
    let fits = c.powered_on-machine.ensures.power_on draft.delay old.ranges in
    let new = any_node c.powered_on-machine.result in
    let even : is_even new.clock ≡ true = ap (λ (x : PortNode). is_even x.clock) c.powered_on-machine.ensures.value in
    record {
      some_delay = old.some_delay;
      short_delay = old.short_delay;
      ranges = old.ranges;
      forced = old.forced;
      slack =
          ap slack_of (ap (map any_node) e ∙ map-append any_node machines one)
          ∙ (drafted (draft_now draft) c.args.node.name new room even (to-sound draft old) fits).slack;
      few = omega (arith, longer, c.requires.few);
      named = omega (arith, longer, more, old.named);
      nodes = subst (All On) (sym e) (All-append On machines one old.nodes
          (All-cons On c.powered_on-machine.result [] fits (All-nil On)));
    }
