-- A script has one dump, exactly where it has a text.
use Rattle.std.proofs.Common.{◌≡◌, ◌++◌, ℕ, List, refl, sym, ◌∙◌, ap, subst}
use Rattle.std.specs.Prelude.{Result, Ok, Err}
use Rattle.script_lines.specs.declared.kind.ScriptFault.{ScriptFault}
use Rattle.script_told.specs.Bus.{Bus}
use Rattle.script_told.specs.Script.{ScriptResult}
use Rattle.script_told.specs.Run.{ScriptRun, IsRun, printed, unless_stopped}
use Rattle.script_told.specs.OneTold.{ScriptsHaveOneRun}
use Rattle.script_told.proofs.Lemmas.{not-both, same-end, same-fault}
use Rattle.script_trace.specs.OneTelling.{RunsAreToldOnce, RunsAreTold}
use Rattle.script_trace.specs.waves.Moment.{waves_voice}
use Rattle.script_trace.specs.Voice.{legend_of}
use Rattle.script_trace.specs.waves.Head.{head}
use Rattle.script_trace.specs.waves.Waves.{IsWavesOf}
use Rattle.script_trace.specs.waves.OneDump.{ScriptsHaveOneDump, DumpedScriptsAreTold, DumpFaultsAreTold, HasDump, RunsHaveDumps}

one-end : (run : ScriptRun) (bus other : Bus) → run.end ≡ Ok bus → run.end ≡ Ok other → bus ≡ other
one-end run bus other is also = same-end bus other (sym is ∙ also)

same-dump :
    RunsAreToldOnce → (bytes : List ℕ) (run : ScriptRun) (one other : ScriptResult) →
    IsRun bytes run →
    IsWavesOf run one → IsWavesOf run other → one ≡ other
same-dump once bytes run (Ok xs) (Ok ys) is x y =
    let bus : y.0 ≡ x.0 = one-end run y.0 x.0 y.1 x.1 in
    let changes = once waves_voice bytes run x.2.changes y.2.changes is x.2.told y.2.told in
    ap Ok (x.2.text_is
    ∙ ap (λ (l : List ℕ). head (legend_of x.0.notes) x.0.world ++ l) changes
    ∙ ap (λ (b : Bus). head (legend_of b.notes) b.world ++ y.2.changes) (sym bus)
    ∙ sym y.2.text_is)
same-dump once bytes run (Ok xs) (Err f) is x y = absurd (not-both x.0 f (sym x.1 ∙ y))
same-dump once bytes run (Err f) (Ok ys) is x y = absurd (not-both y.0 f (sym y.1 ∙ x))
same-dump once bytes run (Err f) (Err g) is x y = ap Err (same-fault f g (sym x ∙ y))

pub one-dump : ScriptsHaveOneRun → RunsAreToldOnce → ScriptsHaveOneDump
one-dump runs once bytes one other x y =
    let run : y.0 ≡ x.0 = runs bytes y.0 x.0 y.1 x.1 in
    same-dump once bytes x.0 one other x.1 x.2
    (subst (λ (r : ScriptRun). IsWavesOf r other) run y.2)

pub dumped-told : DumpedScriptsAreTold
dumped-told bytes dump x =
    (printed x.0.entries, (x.0, x.1, sym (ap (unless_stopped (printed x.0.entries)) x.2.1)))

pub fault-told : DumpFaultsAreTold
fault-told bytes fault x = (x.0, x.1, sym (ap (unless_stopped (printed x.0.entries)) x.2))

pub some-dumps : RunsAreTold → RunsHaveDumps
some-dumps told bytes run is = go run.end refl
  where
    go : (end : Result Bus ScriptFault) → run.end ≡ end → HasDump run
    go (Ok bus) e =
        let changes = told waves_voice bytes run is in
        record {
          told = Ok (head (legend_of bus.notes) bus.world ++ changes.0);
          is = (bus, e, record { changes = changes.0; told = changes.1; text_is = refl });
        }
    go (Err fault) e = record { told = Err fault; is = e }
