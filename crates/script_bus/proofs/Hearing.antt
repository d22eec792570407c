-- What is heard of commands.
use Rattle.std.proofs.Common.{◌≡◌, ◌++◌, ◌+◌, ℕ, List, [], Bool, false, Some, refl, sym, ◌∙◌, ap, subst}
use Rattle.std.specs.Prelude.{Option, None, Ok, Err, MatchBool, nat_lt}
use Rattle.std.proofs.lemmas.List.{append-nil, append_assoc}
use Rattle.cable_world.specs.World.{CableWorld}
use Rattle.cable_world.specs.Turn.{turns_after}
use Rattle.root_plan.specs.declared.choice.RootPlan.{RootPlan}
use Rattle.settle.specs.declared.report.Report.{Report}
use Rattle.settle.specs.Report.{IsReport, quiet_turns_of}
use Rattle.script_lines.specs.declared.kind.Kind.{Kind}
use Rattle.script_lines.specs.declared.command.Command.{Command}
use Rattle.script_lines.specs.declared.command.Command.TheVariants.{Plug, Pull, Reset, Config, Hold}
use Rattle.script_text.specs.ReportText.{IsNamedReport, IsReportText}
use Rattle.script_text.specs.OneText.{ReportsHaveOneText}
use Rattle.script_text.specs.SomeText.{NamedReportsHaveTexts}
use Rattle.script_told.specs.Bus.{Notes, Bus}
use Rattle.script_told.specs.Step.{LineAnswer, Reports, DoesSettle, notes_after_report}
use Rattle.script_trace.specs.Voice.{Legend, legend_of, Voice}
use Rattle.script_trace.specs.Trace.{act_trace, quiet_trace, Traces}
use Rattle.script_bus.specs.Heard.{Hears}
use Rattle.script_bus.specs.Viewed.{IsTextIn, IsTextOf}
use Rattle.script_bus.specs.codings.Standing.{IsQuestion, IsReportedNow, IsPassed, IsPacketSent, IsSentHeard}

-- ---- lines

no-lines : (voice : Voice) (bus after : Bus) (command : Command) → IsQuestion command →
    Traces voice bus command after []
no-lines voice bus after (Plug a a_port b b_port) asks = absurd asks
no-lines voice bus after (Pull name port) asks = absurd asks
no-lines voice bus after (Reset name) asks = absurd asks
no-lines voice bus after (Config name root_id gap) asks = absurd asks
no-lines voice bus after (Hold name port turns) asks = absurd asks
no-lines voice bus after (Command.Turn count) asks = absurd asks
no-lines voice bus after Command.Settle asks = absurd asks
no-lines voice bus after (Command.Plan name) asks = absurd asks
no-lines voice bus after command asks = refl

-- what is heard twice
pub both-heard :
    (xs ys out mid new : List ℕ) → mid ≡ out ++ xs → new ≡ mid ++ ys → new ≡ out ++ (xs ++ ys)
both-heard xs ys out mid new first next =
    next ∙ ap (λ (l : List ℕ). l ++ ys) first ∙ append_assoc out xs ys

pub question-hears :
    (voice : Voice) (bus after : Bus) (command : Command) (out : List ℕ) → IsQuestion command →
    Hears voice bus command after out out
question-hears voice bus after command out asks = record {
  lines = [];
  traces = no-lines voice bus after command asks;
  written = sym (append-nil out);
}

-- ---- reports

-- the report has a text, though it isn't made
pub reports-now :
    NamedReportsHaveTexts → (sent passed after : Bus) →
    passed.world ≡ turns_after (quiet_turns_of sent.world) sent.world → passed.notes ≡ sent.notes →
    IsReportedNow passed after → (text : List ℕ) × Reports sent (Ok (after, text))
reports-now have sent passed after quiet notes r =
    let named = subst (λ (n : Notes). IsNamedReport n.names r.report) notes r.named in
    let text = have sent.notes.names after.notes.reports r.report named in
    let is = subst (λ (w : CableWorld). IsReport w r.report) (sym r.same) r.is in
    (text.text, (r.report, r.same ∙ quiet, is, r.notes ∙ ap (λ (n : Notes). notes_after_report n r.report) notes, text.is))

-- the bus that was reported has this text
pub reported-text : (bus after : Bus) (text : List ℕ) → Reports bus (Ok (after, text)) → IsTextOf after text
reported-text bus after text r =
    subst (λ (n : Notes). IsTextIn n text) (sym r.3)
    (subst (λ (number : ℕ). IsReportText bus.notes.names number r.0 text) (ap (λ (n : Notes). n.reports) r.3) r.4)

-- and no other
pub one-text : ReportsHaveOneText → (bus : Bus) (a b : List ℕ) → IsTextOf bus a → IsTextOf bus b → a ≡ b
one-text one bus a b = by bus.notes.report
  where
    in-notes : Option Report → List ℕ → Type 0
    in-notes o text = IsTextIn (record bus.notes { report = o }) text

    by : (o : Option Report) → in-notes o a → in-notes o b → a ≡ b
    by None x y = x ∙ sym y
    by (Some report) x y = one bus.notes.names bus.notes.reports report a b x y

-- within the limit of turns
pub settles-within :
    (bus : Bus) (answer : LineAnswer) →
    nat_lt 2000000 (bus.world.turns + quiet_turns_of bus.world) ≡ false → Reports bus answer →
    DoesSettle bus answer
settles-within bus answer within r =
    subst (λ (past : Bool). MatchBool past (answer ≡ Err Kind.TooManyTurns) (Reports bus answer))
    (sym within) r

-- the report's legend is that before it
pub legend-stays : (bus after : Bus) (text : List ℕ) → Reports bus (Ok (after, text)) →
    legend_of after.notes ≡ legend_of bus.notes
legend-stays bus after text r = ap legend_of r.3

pub settle-hears :
    (voice : Voice) (bus after : Bus) (text out new : List ℕ) → Reports bus (Ok (after, text)) →
    IsPassed voice (legend_of bus.notes) bus.world out new →
    Hears voice bus Command.Settle after out new
settle-hears voice bus after text out new r is = record {
  lines = quiet_trace voice (legend_of after.notes) bus.world;
  traces = refl;
  written = is ∙ ap (λ (ns : Legend). out ++ quiet_trace voice ns bus.world) (sym (legend-stays bus after text r));
}

-- ---- plans

-- the packet's lines, and those of the quiet turns
both-told :
    (voice : Voice) (command : Command) (w s : CableWorld) (legend after : Legend)
    (out mid new : List ℕ) → after ≡ legend →
    mid ≡ out ++ act_trace voice legend command w s →
    new ≡ mid ++ quiet_trace voice legend s →
    new ≡ out ++ (act_trace voice after command w s ++ quiet_trace voice after s)
both-told voice command w s legend after out mid new named said is =
    both-heard (act_trace voice legend command w s) (quiet_trace voice legend s) out mid new said is
    ∙ ap (λ (ns : Legend). out ++ (act_trace voice ns command w s ++ quiet_trace voice ns s)) (sym named)

pub sent-heard :
    (voice : Voice) (bus sent after : Bus) (name : List ℕ) (node : ℕ) (plan : RootPlan)
    (text out mid new : List ℕ) → IsPacketSent voice bus name node plan sent out mid →
    Reports sent (Ok (after, text)) → IsPassed voice (legend_of sent.notes) sent.world mid new →
    IsSentHeard voice bus name node plan after text out new
sent-heard voice bus sent after name node plan text out mid new s r is = record {
  sent = record { sent = sent; sends = s.sends; reports = r };
  written = both-told voice (Config name (Some plan.root_id) (Some plan.gap)) bus.world sent.world (legend_of sent.notes) (legend_of after.notes) out mid new
      (legend-stays sent after text r) s.written is;
}
