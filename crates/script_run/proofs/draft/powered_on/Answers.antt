use Rattle.std.proofs.Common.{◌≡◌, ℕ, Bool, true, false, if◌then◌else◌, refl, sym, ◌∙◌, ap, subst}
use Rattle.self_id.specs.declared.node.Attrs.{Attrs}
use Rattle.port_state.specs.declared.timing.Timing.{Timing}
use Rattle.port_state.specs.declared.coins.Coins.{Coins}
use Rattle.port_state.specs.Machine.{PortNode}
use Rattle.port_state.specs.TimeRanges.{AreWithin}
use Rattle.port_state.specs.Valid.{IsValid}
use Rattle.phy_machine.specs.Any.{any_valid}
use Rattle.phy_machine.specs.PowerOn.{with_gap_reset}
use Rattle.script_told.specs.Script.{new_node, times_of}
use Rattle.script_told.specs.Fitting.{IsFitting}
use Rattle.script_told.proofs.Lemmas.{suits}
use Rattle.script_run.proofs.draft.powered_on.Goals as goal

-- a plain node that may be made one that resets its gap count is the node that the line says
with-flag :
    (b : Bool) (attrs : Attrs) (ports : ℕ) (force : Bool) (timing : Timing) (coins : Coins)
    (plain : PortNode) → plain ≡ new_node attrs ports force false timing coins →
    (if b then with_gap_reset plain else plain) ≡ new_node attrs ports force b timing coins
with-flag true attrs ports force timing coins plain is = ap with_gap_reset is
with-flag false attrs ports force timing coins plain is = is

pub returns-clause-value : goal.returns-clause-value
returns-clause-value c =
    c.with_gap_reset.ensures
    ∙ with-flag c.args.node.now.gap_reset _ _ _ _ _ _ (c.machine-plain.ensures ∙ c.spec.ensures.value)

pub returns-clause-power_on : goal.returns-clause-power_on
returns-clause-power_on c = λ d fit.
    let said = returns-clause-value c in
    let given = c.args.node.now.times in
    let timing : Timing = times_of c.args.ranges given.hold given.short given.long in
    let within : AreWithin c.args.ranges timing =
    subst (AreWithin c.args.ranges) (ap (λ (n : PortNode). n.state.timing) c.spec.ensures.value) c.spec.ensures.timing in
    subst (IsFitting d c.args.ranges) (sym said) (record {
      powered = record {
        is = refl;
        valid = subst (λ (n : PortNode). IsValid n.state) said (any_valid c.with_gap_reset.result);
        timing = suits d c.args.ranges timing fit.suitable within;
      };
      within = within;
      regular = tt;
      clock = tt;
    })
