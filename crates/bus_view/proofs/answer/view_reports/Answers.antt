use Rattle.std.proofs.Common.{refl, ◌∙◌, ap}
use Rattle.std.specs.Prelude.{List, ℕ}
use Rattle.bus_json.specs.Text.{json_line}
use Rattle.bus_json.specs.Refusal.{line_refusal_value}
use Rattle.bus_json.proofs.Lemmas.{one_line}
use Rattle.bus_view.specs.Answer.{at_fault}
use Rattle.bus_view.proofs.ReadBack.{report_lines}
use Rattle.bus_view.proofs.answer.view_reports.Goals as goal

pub returns-in_ok-line_refusal-in-Err-Fault-clause-view : goal.returns-in_ok-line_refusal-in-Err-Fault-clause-view
returns-in_ok-line_refusal-in-Err-Fault-clause-view c =
    at_fault c.in-Err-Fault.fault refl (rw c.in-Err-Fault.field-0-is at c.in-Err-Fault.ensures.refused)
    (c.in_ok-line_refusal-in-Err-Fault.ensures.line
    ∙ ap (λ (word : List ℕ). json_line (line_refusal_value c.in-Err-Fault.fault.line word)) c.kind_word.ensures.word)

pub returns-in-Ok-clause-json : goal.returns-in-Ok-clause-json
returns-in-Ok-clause-json c = record {
  lines = report_lines c.args.bytes.now c.in-Ok.text.items c.in-Ok.ensures.reads_back;
  reports = λ zero. c.in-Ok.ensures.reads_back;
}

pub returns-in_ok-line_refusal-in-Err-Fault-clause-json : goal.returns-in_ok-line_refusal-in-Err-Fault-clause-json
returns-in_ok-line_refusal-in-Err-Fault-clause-json c = record {
  lines = one_line _ record {
    value = line_refusal_value c.in-Err-Fault.fault.line c.kind_word.result.now;
    text_is = c.in_ok-line_refusal-in-Err-Fault.ensures.line;
    read_back = c.in_ok-line_refusal-in-Err-Fault.ensures.reads_back;
  };
  reports = λ zero. absurd cc;
}
