use Rattle.script_made.specs.Made.{made_script}
use Rattle.script_trace.specs.Trace.{IsTrace}
use Rattle.script_trace.specs.waves.Waves.{IsWaves}
use Rattle.script_run.specs.Viewed.{IsPictured}
use Rattle.trace_laws.specs.Events.{IsOfEvents}
use Rattle.wave_laws.specs.Run.{ShowsItsRun}
use Rattle.picture_laws.specs.Dots.{IsScriptDot}
use Rattle.bus_view.specs.Explained.{explanation}
use Rattle.bus_view.proofs.Whole.{written_whole}
use Rattle.bus_view.specs.declared.form.CaptureView.TheVariants.{Packets, Tree, Dot, Json}
use Rattle.bus_view.specs.declared.form.ViewForm.TheVariants.{Capture, Trace, Waves, DotRun, JsonRun, ListOf, Explain}
use Rattle.bus_view.proofs.Forms.{log_apart}
use Rattle.bus_view.proofs.Ends.{form_written, capture_written}
use Rattle.bus_view.proofs.top.view_main.Goals as goal

pub returns-clause-packets : goal.returns-clause-packets
returns-clause-packets g c = λ standard asks. form_written c.args.words.now (Capture Packets standard) asks _ _ _ _ (c.view_asked.ensures.streams (log_apart c.args.words.now (Capture Packets standard) tt asks)).answer

pub returns-clause-tree : goal.returns-clause-tree
returns-clause-tree g c = λ standard asks. form_written c.args.words.now (Capture Tree standard) asks _ _ _ _ (c.view_asked.ensures.streams (log_apart c.args.words.now (Capture Tree standard) tt asks)).answer

pub returns-clause-dot : goal.returns-clause-dot
returns-clause-dot g c = λ standard asks. form_written c.args.words.now (Capture Dot standard) asks _ _ _ _ (c.view_asked.ensures.streams (log_apart c.args.words.now (Capture Dot standard) tt asks)).answer

pub returns-clause-json : goal.returns-clause-json
returns-clause-json g c = λ standard asks. form_written c.args.words.now (Capture Json standard) asks _ _ _ _ (c.view_asked.ensures.streams (log_apart c.args.words.now (Capture Json standard) tt asks)).answer

pub returns-clause-trace : goal.returns-clause-trace
returns-clause-trace g c = λ asks. form_written c.args.words.now Trace asks _ _ _ _ (c.view_asked.ensures.streams (log_apart c.args.words.now Trace tt asks)).answer

pub returns-clause-waves : goal.returns-clause-waves
returns-clause-waves g c = λ asks. form_written c.args.words.now Waves asks _ _ _ _ (c.view_asked.ensures.streams (log_apart c.args.words.now Waves tt asks)).answer

pub returns-clause-dot_run : goal.returns-clause-dot_run
returns-clause-dot_run g c = λ asks. form_written c.args.words.now DotRun asks _ _ _ _ (c.view_asked.ensures.streams (log_apart c.args.words.now DotRun tt asks)).answer

pub returns-clause-json_run : goal.returns-clause-json_run
returns-clause-json_run g c = λ asks. form_written c.args.words.now JsonRun asks _ _ _ _ (c.view_asked.ensures.streams (log_apart c.args.words.now JsonRun tt asks)).answer

pub returns-clause-explain : goal.returns-clause-explain
returns-clause-explain g c = λ form asks. form_written c.args.words.now (Explain form) asks _ _ _ _ (c.view_asked.ensures.streams (log_apart c.args.words.now (Explain form) tt asks)).answer

pub returns-clause-capture : goal.returns-clause-capture
returns-clause-capture g c = λ name asks.
    capture_written c.captures_are_of_reports.ensures.read name c.view_asked.result (g.S.Source.left c.args.source.now) _ _
    (form_written c.args.words.now (ListOf name) asks _ _ _ _ (c.view_asked.ensures.streams (log_apart c.args.words.now (ListOf name) tt asks)).answer)

pub returns-clause-script : goal.returns-clause-script
returns-clause-script g c = λ nodes seed asks zero.
    (made_script nodes seed, c.make_sums_up_the_script.ensures nodes seed asks.few_nodes, c.view_asked.ensures.script nodes seed asks zero)

pub returns-clause-trace_events : goal.returns-clause-trace_events
returns-clause-trace_events g c = λ asks zero.
    written_whole IsTrace explanation (λ bytes text. IsOfEvents text) c.traces_are_of_events.ensures.events
    (g.S.Source.left c.args.source.now) _ _ c.view_asked.result zero
    (form_written c.args.words.now Trace asks _ _ _ _ (c.view_asked.ensures.streams (log_apart c.args.words.now Trace tt asks)).answer)

pub returns-clause-dot_run_graph : goal.returns-clause-dot_run_graph
returns-clause-dot_run_graph g c = λ asks zero.
    written_whole IsPictured explanation IsScriptDot c.pictures_are_dot.ensures
    (g.S.Source.left c.args.source.now) _ _ c.view_asked.result zero
    (form_written c.args.words.now DotRun asks _ _ _ _ (c.view_asked.ensures.streams (log_apart c.args.words.now DotRun tt asks)).answer)

pub returns-clause-waves_shown : goal.returns-clause-waves_shown
returns-clause-waves_shown g c = λ asks zero.
    written_whole IsWaves explanation ShowsItsRun c.dumps_show_the_run.ensures
    (g.S.Source.left c.args.source.now) _ _ c.view_asked.result zero
    (form_written c.args.words.now Waves asks _ _ _ _ (c.view_asked.ensures.streams (log_apart c.args.words.now Waves tt asks)).answer)
