use Rattle.std.proofs.Common.{◌≡◌, ◌⊎◌, inl, inr, [], refl, subst}
use Rattle.std.specs.Io.KnownBytes.{Appends}
use Rattle.bus_json.proofs.Lemmas.{one_line}
use Rattle.reset_list.specs.declared.form.LogForm.{LogForm}
use Rattle.reset_list.specs.declared.form.LogForm.TheVariants.{Json as Lines}
use Rattle.nosy_dump.specs.Dump.{IsBegun}
use Rattle.top_call.proofs.Lemmas.{unread_written}
use Rattle.bus_view.specs.declared.form.ExplainForm.TheVariants.{Json as Each}
use Rattle.bus_view.specs.declared.form.ViewForm.TheVariants.{Capture, JsonRun, Explain, Script, Resets, Nosy, OfItself}
use Rattle.bus_view.specs.Log.{IsLogView, IsDumpView, IsLogBegun, ShowsAsItComes}
use Rattle.bus_view.proofs.Ends.{of_form}
use Rattle.bus_view.specs.declared.form.CaptureView.TheVariants.{Dot, Json}
use Rattle.bus_view.proofs.ReadBack.{read_reports, read_dot}
use Rattle.bus_view.proofs.Forms.{log_apart, input_apart, is_held, one_resets, one_nosy, no_dump}
use Rattle.bus_view.proofs.top.view_asked.Goals as goal

pub returns-in-Some-clause-streams : goal.returns-in-Some-clause-streams
returns-in-Some-clause-streams g c = λ no_log.
    let asks = (c.in-Some.ensures c.in-Some.form).0 refl in
    absurd (no_log (c.in-Some.form, inl asks))

pub returns-in-Some-clause-no_form : goal.returns-in-Some-clause-no_form
returns-in-Some-clause-no_form g c =
    let asks = (c.in-Some.ensures c.in-Some.form).0 refl in (
      λ two. absurd (c.show_resets.ensures.shown.is_form two),
      λ none. absurd (none (Resets c.in-Some.form, asks)),
    )

pub returns-in-Some-clause-resets : goal.returns-in-Some-clause-resets
returns-in-Some-clause-resets g c = λ form again.
    let asks = (c.in-Some.ensures c.in-Some.form).0 refl in
    let left = g.S.Source.left in
    let status = c.show_resets.result in
    subst (λ (s : LogForm). ShowsAsItComes left g.S.Source.faults g.K.Sink.written g.K.Sink.faults
    g.K.Sink.surely_takes ((status ≡ 0) ⊎ (status ≡ 1)) (IsLogView s) (IsLogBegun s) status
    c.args.source.now c.show_resets.new.source c.args.sink.now c.show_resets.new.sink)
    (one_resets c.args.words.now c.in-Some.form form asks again) c.show_resets.ensures.shown

pub returns-in-Some-clause-nosy : goal.returns-in-Some-clause-nosy
returns-in-Some-clause-nosy g c = λ form again.
    let asks = (c.in-Some.ensures c.in-Some.form).0 refl in
    absurd (no_dump c.args.words.now c.in-Some.form form asks again)

pub returns-in-Some-clause-unfailing : goal.returns-in-Some-clause-unfailing
returns-in-Some-clause-unfailing g c = λ input.
    let asks = (c.in-Some.ensures c.in-Some.form).0 refl in
    absurd (input_apart c.args.words.now input (c.in-Some.form, inl asks))

pub returns-in-Some-clause-script : goal.returns-in-Some-clause-script
returns-in-Some-clause-script g c = λ nodes seed script zero.
    let asks = (c.in-Some.ensures c.in-Some.form).0 refl in
    absurd (input_apart c.args.words.now (Script nodes seed, script, tt) (c.in-Some.form, inl asks))

pub returns-in-Some-clause-itself : goal.returns-in-Some-clause-itself
returns-in-Some-clause-itself g c = λ about itself zero.
    let asks = (c.in-Some.ensures c.in-Some.form).0 refl in
    absurd (input_apart c.args.words.now (OfItself about, itself, tt) (c.in-Some.form, inl asks))

pub returns-in-Some-dump_form-clause-streams : goal.returns-in-Some-dump_form-clause-streams
returns-in-Some-dump_form-clause-streams g c = λ no_log.
    let asks = (c.in-Some-dump_form.ensures c.in-Some-dump_form.form).0 refl in
    absurd (no_log (c.in-Some-dump_form.form, inr asks))

pub returns-in-Some-dump_form-clause-no_form : goal.returns-in-Some-dump_form-clause-no_form
returns-in-Some-dump_form-clause-no_form g c =
    let asks = (c.in-Some-dump_form.ensures c.in-Some-dump_form.form).0 refl in (
      λ two. absurd (c.show_nosy.ensures.shown.is_form two),
      λ none. absurd (none (Nosy c.in-Some-dump_form.form, asks)),
    )

pub returns-in-Some-dump_form-clause-nosy : goal.returns-in-Some-dump_form-clause-nosy
returns-in-Some-dump_form-clause-nosy g c = λ form again.
    let asks = (c.in-Some-dump_form.ensures c.in-Some-dump_form.form).0 refl in
    let left = g.S.Source.left in
    let status = c.show_nosy.result in
    subst (λ (s : LogForm). ShowsAsItComes left g.S.Source.faults g.K.Sink.written g.K.Sink.faults
    g.K.Sink.surely_takes (status ≡ 0) (IsDumpView s) (IsBegun s) status c.args.source.now
    c.show_nosy.new.source c.args.sink.now c.show_nosy.new.sink)
    (one_nosy c.args.words.now c.in-Some-dump_form.form form asks again) c.show_nosy.ensures.shown

pub returns-in-Some-dump_form-clause-resets : goal.returns-in-Some-dump_form-clause-resets
returns-in-Some-dump_form-clause-resets g c = λ form again.
    let asks = (c.in-Some-dump_form.ensures c.in-Some-dump_form.form).0 refl in
    absurd (no_dump c.args.words.now form c.in-Some-dump_form.form again asks)

pub returns-in-Some-dump_form-clause-unfailing : goal.returns-in-Some-dump_form-clause-unfailing
returns-in-Some-dump_form-clause-unfailing g c = λ input.
    let asks = (c.in-Some-dump_form.ensures c.in-Some-dump_form.form).0 refl in
    absurd (input_apart c.args.words.now input (c.in-Some-dump_form.form, inr asks))

pub returns-in-Some-dump_form-clause-script : goal.returns-in-Some-dump_form-clause-script
returns-in-Some-dump_form-clause-script g c = λ nodes seed script zero.
    let asks = (c.in-Some-dump_form.ensures c.in-Some-dump_form.form).0 refl in
    absurd (input_apart c.args.words.now (Script nodes seed, script, tt)
    (c.in-Some-dump_form.form, inr asks))

pub returns-in-Some-dump_form-clause-itself : goal.returns-in-Some-dump_form-clause-itself
returns-in-Some-dump_form-clause-itself g c = λ about itself zero.
    let asks = (c.in-Some-dump_form.ensures c.in-Some-dump_form.form).0 refl in
    absurd (input_apart c.args.words.now (OfItself about, itself, tt)
    (c.in-Some-dump_form.form, inr asks))

pub answer-requires-clause-held : goal.answer-requires-clause-held
answer-requires-clause-held g c =
    λ form asks. is_held c.args.words.now form asks (λ log. elim log.1 [
      | inl resets ↦ let e = (c.in_default.ensures log.0).1 resets in cc
      | inr nosy ↦ let e = (c.in_default-dump_form.ensures log.0).1 nosy in cc
    ])

pub answer-requires-clause-some : goal.answer-requires-clause-some
answer-requires-clause-some g c = c.one_view.ensures.some c.args.words.now

pub answer-requires-clause-one : goal.answer-requires-clause-one
answer-requires-clause-one g c = c.one_view.ensures.one c.args.words.now

pub returns-clause-streams : goal.returns-clause-streams
returns-clause-streams g c = λ no_log. c.answer.ensures.streams

pub returns-clause-script : goal.returns-clause-script
returns-clause-script g c = λ nodes seed asks zero.
    let w = unread_written _ _ _ _ _ _ _ _ _ _ _ _ c.answer.ensures.streams
    (Script nodes seed, asks, tt) zero in
    subst (Appends (g.K.Sink.written c.args.sink.now) (g.K.Sink.written c.answer.new.sink))
    (of_form c.args.words.now (Script nodes seed) asks [] 0 w.0 w.1).1 w.2

pub returns-clause-itself : goal.returns-clause-itself
returns-clause-itself g c = λ about asks zero.
    let w = unread_written _ _ _ _ _ _ _ _ _ _ _ _ c.answer.ensures.streams
    (OfItself about, asks, tt) zero in
    (w.0, of_form c.args.words.now (OfItself about) asks [] 0 w.0 w.1, w.2)

pub returns-clause-resets : goal.returns-clause-resets
returns-clause-resets g c =
    λ form resets. absurd (let e = (c.in_default.ensures form).1 resets in cc)

pub returns-clause-nosy : goal.returns-clause-nosy
returns-clause-nosy g c =
    λ form nosy. absurd (let e = (c.in_default-dump_form.ensures form).1 nosy in cc)

-- ---- lines of JSON

pub returns-in-Some-clause-json_lines : goal.returns-in-Some-clause-json_lines
returns-in-Some-clause-json_lines g c = λ json which.
    let asks = (c.in-Some.ensures c.in-Some.form).0 refl in
    elim json [
      | inl bus ↦ absurd (log_apart c.args.words.now (Capture Json bus.0) tt bus.1
          (c.in-Some.form, inl asks))
      | inr (inl run) ↦ absurd (log_apart c.args.words.now JsonRun tt run
          (c.in-Some.form, inl asks))
      | inr (inr (inl faults)) ↦ absurd (log_apart c.args.words.now (Explain Each) tt faults
          (c.in-Some.form, inl asks))
      | inr (inr (inr (inl log))) ↦ c.show_resets.ensures.json log.0
          (one_resets c.args.words.now c.in-Some.form (Lines log.0) asks log.1) which
      | inr (inr (inr (inr dump))) ↦ absurd
          (no_dump c.args.words.now c.in-Some.form (Lines dump.0) asks dump.1)
    ]

pub returns-in-Some-clause-reports : goal.returns-in-Some-clause-reports
returns-in-Some-clause-reports g c = λ run zero.
    let asks = (c.in-Some.ensures c.in-Some.form).0 refl in
    absurd (log_apart c.args.words.now JsonRun tt run (c.in-Some.form, inl asks))

pub returns-in-Some-dump_form-clause-json_lines : goal.returns-in-Some-dump_form-clause-json_lines
returns-in-Some-dump_form-clause-json_lines g c = λ json which.
    let asks = (c.in-Some-dump_form.ensures c.in-Some-dump_form.form).0 refl in
    elim json [
      | inl bus ↦ absurd (log_apart c.args.words.now (Capture Json bus.0) tt bus.1
          (c.in-Some-dump_form.form, inr asks))
      | inr (inl run) ↦ absurd (log_apart c.args.words.now JsonRun tt run
          (c.in-Some-dump_form.form, inr asks))
      | inr (inr (inl faults)) ↦ absurd (log_apart c.args.words.now (Explain Each) tt faults
          (c.in-Some-dump_form.form, inr asks))
      | inr (inr (inr (inl log))) ↦ absurd
          (no_dump c.args.words.now (Lines log.0) c.in-Some-dump_form.form log.1 asks)
      | inr (inr (inr (inr dump))) ↦ c.show_nosy.ensures.json dump.0
          (one_nosy c.args.words.now c.in-Some-dump_form.form (Lines dump.0) asks dump.1) which
    ]

pub returns-in-Some-dump_form-clause-reports : goal.returns-in-Some-dump_form-clause-reports
returns-in-Some-dump_form-clause-reports g c = λ run zero.
    let asks = (c.in-Some-dump_form.ensures c.in-Some-dump_form.form).0 refl in
    absurd (log_apart c.args.words.now JsonRun tt run (c.in-Some-dump_form.form, inr asks))

pub returns-clause-json_lines : goal.returns-clause-json_lines
returns-clause-json_lines g c = λ json which. elim json [
  | inl bus ↦ let told = c.answer.ensures.tells which (Capture Json bus.0) bus.1 in
      record { text = told.2; lines = one_line told.2 told.3; wrote = told.4 }
  | inr (inl run) ↦ let told = c.answer.ensures.tells which JsonRun run in
      record { text = told.2; lines = told.3.lines; wrote = told.4 }
  | inr (inr (inl faults)) ↦ let told = c.answer.ensures.tells which (Explain Each) faults in
      record { text = told.2; lines = told.3 refl; wrote = told.4 }
  | inr (inr (inr (inl log))) ↦ absurd (let e = (c.in_default.ensures (Lines log.0)).1 log.1 in cc)
  | inr (inr (inr (inr dump))) ↦ absurd
      (let e = (c.in_default-dump_form.ensures (Lines dump.0)).1 dump.1 in cc)
]

pub returns-clause-reports : goal.returns-clause-reports
returns-clause-reports g c = λ run zero.
    let told = c.answer.ensures.tells (inl zero) JsonRun run in
    read_reports (g.S.Source.left c.args.source.now) _ _ _ told.0 told.2 told.1 told.3 zero told.4

-- ---- a graph

pub returns-in-Some-clause-dot_graph : goal.returns-in-Some-clause-dot_graph
returns-in-Some-clause-dot_graph g c = λ standard dot zero.
    let asks = (c.in-Some.ensures c.in-Some.form).0 refl in
    absurd (log_apart c.args.words.now (Capture Dot standard) tt dot (c.in-Some.form, inl asks))

pub returns-in-Some-dump_form-clause-dot_graph : goal.returns-in-Some-dump_form-clause-dot_graph
returns-in-Some-dump_form-clause-dot_graph g c = λ standard dot zero.
    let asks = (c.in-Some-dump_form.ensures c.in-Some-dump_form.form).0 refl in
    absurd (log_apart c.args.words.now (Capture Dot standard) tt dot
    (c.in-Some-dump_form.form, inr asks))

pub returns-clause-dot_graph : goal.returns-clause-dot_graph
returns-clause-dot_graph g c = λ standard dot zero.
    let told = c.answer.ensures.tells (inl zero) (Capture Dot standard) dot in
    read_dot (g.S.Source.left c.args.source.now) _ _ standard told.0 told.2 told.1 (told.3 zero) told.4
