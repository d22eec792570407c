-- The text that a script tells is what its run prints.
use Rattle.std.proofs.Common.{Result, Ok, Err, ◌≡◌, refl, ℕ, List, ap, ◌∙◌}
use Rattle.std.proofs.lemmas.List.Elements.{All-weaker}
use Rattle.cable_world.specs.Run.{IsReached}
use Rattle.world_laws.specs.WiringSlots.{ListsAreEmitted, SettledListsAreEmitted}
use Rattle.script_lines.specs.declared.kind.ScriptFault.{ScriptFault}
use Rattle.script_told.specs.Bus.{Bus}
use Rattle.script_told.specs.Reached.{world_of, ScriptWorldsAreReached}
use Rattle.script_told.specs.Run.{Entry, printed, unless_stopped, IsResult}
use Rattle.script_told.specs.EachReport.{ReportsAreSettled}
use Rattle.script_told.specs.ScriptEvents.{ScriptsAreRuns}
use Rattle.script_told.specs.EachPlan.{EachPlanComesOut}
use Rattle.script_bus.specs.EachConfig.{EachConfigComesOut}
use Rattle.script_bus.specs.EachWaiting.{EachWaitingNodeBecomesRoot}
use Rattle.script_run.specs.Answer.{PrintsRun}

-- a text that a script tells is what its run prints
pub told-prints :
    ReportsAreSettled → ScriptsAreRuns → EachPlanComesOut → EachConfigComesOut →
    EachWaitingNodeBecomesRoot → ScriptWorldsAreReached → SettledListsAreEmitted → (bytes text : List ℕ) →
    IsResult bytes (Ok text) → PrintsRun bytes text
told-prints settled runs plans configs waiting reached emitted bytes text x = go x.0.end refl
  where
    go : (end : Result Bus ScriptFault) → x.0.end ≡ end → PrintsRun bytes text
    go (Ok bus) e = record {
      run = x.0;
      is = x.1;
      bus = bus;
      ends = e;
      text_is = same text (printed x.0.entries) (x.2 ∙ ap (unless_stopped (printed x.0.entries)) e);
      settled = settled bytes x.0 x.1;
      runs = runs bytes x.0 x.1;
      plans = plans bytes x.0 x.1;
      configs = configs bytes x.0 x.1;
      waiting = waiting bytes x.0 x.1;
      lists =
          All-weaker (λ (e : Entry). IsReached (world_of e.before) × IsReached (world_of e.after))
          (λ (e : Entry). ListsAreEmitted (world_of e.after)) (λ e h. emitted (world_of e.after) h.1) x.0.entries
          (reached bytes x.0 x.1);
    }
      where
        same : (a b : List ℕ) → ◌≡◌ {A = Result (List ℕ) ScriptFault} (Ok a) (Ok b) → a ≡ b
        same a b f = cc
    go (Err f) e = absurd (apart text f (x.2 ∙ ap (unless_stopped (printed x.0.entries)) e))
      where
        apart : (a : List ℕ) (g : ScriptFault) → ◌≡◌ {A = Result (List ℕ) ScriptFault} (Ok a) (Err g) → ⊥
        apart a g h = absurd cc
