-- A node that alone is forced is the root that is reported.
use Rattle.std.proofs.Common.{◌≡◌, ℕ, ◌*◌, ◌<◌, ◌≤◌, Bool, true, false, Some, length, slice_get, sym, ◌∙◌, ap, subst, arith}
use Rattle.std.specs.Prelude.{Any}
use Rattle.std.proofs.lemmas.Option.{slice_get_within}
use Rattle.topology_stack.specs.Tree.{Tree}
use Rattle.cabling.specs.Existence.{ComponentsExist}
use Rattle.cabling.specs.NodeSet.{Holds}
use Rattle.cabling.proofs.Lemmas.{Loopless, loopless, shared}
use Rattle.port_state.specs.Machine.{PortNode}
use Rattle.cable_world.specs.World.{CableWorld}
use Rattle.cable_world.specs.Run.{IsReached}
use Rattle.cable_world.specs.Lawful.{IsLawful}
use Rattle.cable_world.specs.Outcome.{IsTree, AtView}
use Rattle.cable_world.proofs.Lemmas.{some-of, some-at, lawful-now, plain-quiet, plainly, reached-comes, turns-cabling}
use Rattle.cable_world.specs.Quiet.{no_holds, quiet_after}
use Rattle.outcomes.specs.Forced.{EntriesTakeOver, waits_due}
use Rattle.outcomes.specs.Settled.{ForcedRootsSettle}
use Rattle.outcomes.proofs.Lemmas.{reached-enough, small-fresh}
use Rattle.settle.specs.Report.{IsReport, IsTreeFrom, quiet_turns_of, IsAfterQuiet}
use Rattle.settle.specs.declared.report.Report.{Report}
use Rattle.settle.specs.Forced.{BeginsAnew, IsForcedAlone, ForcedNodeIsRoot}
use Rattle.settle.proofs.QuietCount.{turns-enough}
use Rattle.settle.proofs.Found.{found}

module _
    (exist : ComponentsExist) (takes : EntriesTakeOver) (settles : ForcedRootsSettle) (w v : CableWorld) (l : IsLawful w)
    (reached : ∥ IsReached w ∥₁) (from set node : ℕ) (quiet : IsAfterQuiet w v)
    (b : BeginsAnew w from set) (f : IsForcedAlone v set node) where
  -- what is forced after the turns waited before them
  waited : (k : ℕ) (b : Bool) → Holds set k → AtView v k (λ x. x.force ≡ b) →
      AtView w k (λ x. waits_due x ≡ b)
  waited k bit m shown =
      let x = some-of (slice_get w.nodes k) _ (b.fresh.waits k m) in
      let y = some-of (slice_get v.nodes k) _ shown in
      let at : slice_get (quiet_after no_holds (quiet_turns_of w) w).nodes k ≡ Some y.0 = ap (λ (u : CableWorld). slice_get u.nodes k) (plain-quiet (quiet_turns_of w) w ∙ sym quiet) ∙ y.1 in
      let over : length w.nodes * w.delay ≤ quiet_turns_of w = omega (arith, turns-enough w) in
      let t = takes no_holds w from set (quiet_turns_of w) k x.0 y.0 l b.component b.fresh over m x.1 at in
      some-at (slice_get w.nodes k) x.0 (λ (z : PortNode). waits_due z.state.view ≡ bit) x.1 (sym t.0 ∙ y.2)

  moved : IsReached w → (t : Tree) × IsTree v set node t
  moved r =
      let t = settles no_holds w (quiet_turns_of w) from set node (reached-comes w r) (record {
        lawful = l;
        component = b.component;
        no_loop = b.no_loop;
        fresh = b.fresh;
        alone = record {
          holds = f.holds;
          waits = waited node true f.holds f.forced;
          others = λ k m ne. waited k false m (f.others k m ne);
        };
        enough = reached-enough w node r;
      }) (turns-enough w) in
      (t.0, subst (λ (u : CableWorld). IsTree u set node t.0) (sym quiet) (plainly (λ u. IsTree u set node t.0) (quiet_turns_of w) w t.1))

  there : (k : ℕ) → Holds set k → k < length w.cabling
  there k m =
      let x = some-of (slice_get w.nodes k) _ (b.fresh.waits k m) in
      omega (arith, slice_get_within w.nodes k x.0 x.1, l.well_formed.count)

  cables : v.cabling ≡ w.cabling
  cables = ap (λ (u : CableWorld). u.cabling) quiet ∙ turns-cabling (quiet_turns_of w) w

  tree-shape : Loopless w.cabling node set
  tree-shape = loopless w.cabling node set b.no_loop.core l.well_formed.cabling (there node f.holds) (shared w.cabling from node set l.well_formed.cabling b.component f.holds) (small-fresh exist w l from set b.component b.fresh) b.no_loop.is_core b.no_loop.empty

  forced-found : (report : Report) → IsReport v report →
      Any (IsTreeFrom w.cabling from node) report.parts
  forced-found report is = found w.cabling v cables from set node b.component tree-shape (there from b.component.holds) (IsReached w) reached moved report.parts is.parts

pub forced-nodes :
    ComponentsExist → EntriesTakeOver → ForcedRootsSettle → (w v : CableWorld) → ∥ IsReached w ∥₁ → IsAfterQuiet w v →
    (report : Report) → IsReport v report → ForcedNodeIsRoot w v report
forced-nodes exist takes settles w v reached quiet report is from set node b f = forced-found exist takes settles w v (lawful-now w reached) reached from set node quiet b f report is
