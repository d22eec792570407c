-- A component of a world that has settled has an outcome.
use Rattle.std.proofs.Common.{◌≡◌, ℕ, zero, suc, ◌<◌, true, false, Option, Some, None, length, slice_get, refl, sym, ◌∙◌, ap, arith}
use Rattle.std.specs.Coded.{Coded-set, coded_ℕ, coded_bool, coded_option, code_by, ×_prop}
use Rattle.std.specs.Prelude.{IsSomeAnd}
use Rattle.std.proofs.Math.Logic.{∥∥₁_elim}
use Rattle.cabling.specs.NodeSet.{IsEmpty}
use Rattle.cabling.specs.Looped.{IsCore}
use Rattle.port_state.specs.declared.signal.Phase.{Phase}
use Rattle.port_state.specs.declared.signal.Phase.TheVariants as phase
use Rattle.port_state.specs.declared.view.View.{View}
use Rattle.port_state.specs.Machine.{PortNode}
use Rattle.cable_world.specs.World.{CableWorld}
use Rattle.cable_world.specs.Run.{IsReached}
use Rattle.cable_world.specs.Outcome.{Ending, loop, tree, contention, HasNoLoop, IsLoop, IsContention, IsOutcome, IsSettled, AtView}
use Rattle.cable_world.proofs.Lemmas.{reached-comes, reached-lawful, plainly}
use Rattle.cable_world.specs.Quiet.{no_holds}
use Rattle.cable_world.specs.Phases.{is_in_bus_reset}
use Rattle.convergence.specs.Milestones.{ResetsAreDone}
use Rattle.outcomes.specs.Settled.{ResetsAreDoneByThen}
use Rattle.outcomes.specs.Headline.{EveryBusSettles}
use Rattle.settle.specs.Report.{AreThere, quiet_turns_of, IsAfterQuiet, HasSettled}
use Rattle.settle.specs.Reported.{IsNoTree, ReportsLoop}
use Rattle.settle.specs.codings.Reading.{IsPartOf}
use Rattle.settle.proofs.QuietCount.{turns-enough}
use Rattle.settle.proofs.LeftAlone.{left-reached}

-- ---- facts with one proof at most

phase_number : Phase → ℕ
phase_number phase.ResetStart = 0
phase_number phase.ResetWait = 1
phase_number phase.TreeStart = 2
phase_number phase.ChildShake = 3
phase_number phase.ParentShake = 4
phase_number phase.Contend = 5
phase_number phase.SelfIdent = 6
phase_number phase.Ready = 7

phase_of : ℕ → Phase
phase_of zero = phase.ResetStart
phase_of (suc zero) = phase.ResetWait
phase_of (suc (suc zero)) = phase.TreeStart
phase_of (suc (suc (suc zero))) = phase.ChildShake
phase_of (suc (suc (suc (suc zero)))) = phase.ParentShake
phase_of (suc (suc (suc (suc (suc zero))))) = phase.Contend
phase_of (suc (suc (suc (suc (suc (suc zero)))))) = phase.SelfIdent
phase_of n = phase.Ready

phase_of-number : (p : Phase) → phase_of (phase_number p) ≡ p
unfolding phase_number phase_of
phase_of-number phase.ResetStart = refl
phase_of-number phase.ResetWait = refl
phase_of-number phase.TreeStart = refl
phase_of-number phase.ChildShake = refl
phase_of-number phase.ParentShake = refl
phase_of-number phase.Contend = refl
phase_of-number phase.SelfIdent = refl
phase_of-number phase.Ready = refl

same_phases : (a b : Phase) → IsProp (a ≡ b)
same_phases = Coded-set (code_by ℕ coded_ℕ phase_number phase_of phase_of-number)

shows_prop :
    (w : CableWorld) (k : ℕ) (P : View → Type 0) → ((v : View) → IsProp (P v)) →
    IsProp (AtView w k P)
shows_prop w k P p = go (slice_get w.nodes k)
  where
    go : (o : Option PortNode) → IsProp (IsSomeAnd o (λ x. P x.state.view))
    go None = λ a b. absurd a
    go (Some x) = p x.state.view

timed_out_prop :
    (w : CableWorld) (k : ℕ) →
    IsProp (AtView w k (λ v. (v.phase ≡ phase.TreeStart) × (v.timed_out ≡ true)))
timed_out_prop w k = shows_prop w k (λ v. (v.phase ≡ phase.TreeStart) × (v.timed_out ≡ true)) (λ v. ×_prop (same_phases v.phase phase.TreeStart) (Coded-set coded_bool v.timed_out true))

unnamed_prop : (w : CableWorld) (k : ℕ) → IsProp (AtView w k (λ v. v.id ≡ None))
unnamed_prop w k = shows_prop w k (λ v. v.id ≡ None) (λ v. Coded-set (coded_option coded_ℕ) v.id None)

no_prop : IsProp ⊥
no_prop = λ a b. absurd a

-- ---- no node is in R0 or R1

pub done-by-then :
    ResetsAreDoneByThen → (w v : CableWorld) → IsAfterQuiet w v → ∥ IsReached w ∥₁ → ResetsAreDone v
done-by-then done w v is r k x at = ∥∥₁_elim r (Coded-set coded_bool (is_in_bus_reset x.state.view.phase) false)
    (λ reached. plainly ResetsAreDone (quiet_turns_of w) w (done no_holds w (quiet_turns_of w) (reached-comes w reached) (turns-enough w)) k x (sym (ap (λ (u : CableWorld). slice_get u.nodes k) is) ∙ at))

-- ---- a component of a world that has settled

module _
    (every : EveryBusSettles) (w : CableWorld) (set : ℕ) (part : IsPartOf w set)
    (there : AreThere w set) where
  pub settled : HasSettled w → IsSettled w set
  settled h = every h.before w (reached-comes h.before h.reached) h.is part.0 set inside part.1
    where
      inside : part.0 < length w.nodes
      inside = omega (arith, there part.0 part.1.holds, (reached-lawful w (left-reached h.before w h.reached h.is)).well_formed.count)

module _
    (every : EveryBusSettles) (w : CableWorld) (set core : ℕ) (part : IsPartOf w set)
    (there : AreThere w set) (is : IsCore w.cabling set core) where
  -- with a loop it has come to that
  loop-of : (IsEmpty core → ⊥) → IsSettled w set → IsLoop w set core
  loop-of some s = go s.0 s.1
    where
      none : HasNoLoop w set → ⊥
      none n = some (λ k h. n.empty k ((n.is_core k).1 ((is k).0 h)))

      go : (o : Ending) → IsOutcome w set o → IsLoop w set core
      go (loop c) h = record {
        is_core = is;
        node = h.node;
        in_core = (is h.node).1 ((h.is_core h.node).0 h.in_core);
        timed_out = λ k i. h.timed_out k ((h.is_core k).1 ((is k).0 i));
        unnamed = h.unnamed;
      }
      go (tree root t) h = absurd (none h.no_loop)
      go (contention a b) h = absurd (none h.0.no_loop)

  pub reports-loop : (IsEmpty core → ⊥) → ∥ HasSettled w ∥₁ → ReportsLoop w set core
  reports-loop some h = record {
    is = is;
    some = some;
    timed_out = λ k i. ∥∥₁_elim h (timed_out_prop w k) (λ s. (loop-of some (settled every w set part there s)).timed_out k i);
    unnamed = λ k i. ∥∥₁_elim h (unnamed_prop w k) (λ s. (loop-of some (settled every w set part there s)).unnamed k i);
  }

  -- and without one it has come to a tree, or to a contention
  pub not-neither :
      IsEmpty core → IsNoTree w set → ((a b : ℕ) → IsContention w set a b → ⊥) →
      ∥ HasSettled w ∥₁ → ⊥
  not-neither empty no-tree no-contention h = ∥∥₁_elim h no_prop (λ s. let o = settled every w set part there s in go o.0 o.1)
    where
      go : (o : Ending) → IsOutcome w set o → ⊥
      go (loop c) h = empty h.node ((is h.node).1 ((h.is_core h.node).0 h.in_core))
      go (tree root t) h = no-tree root t h
      go (contention a b) h = no-contention a b h.0
