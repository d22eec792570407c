use Rattle.std.proofs.Common.{ℕ, List, subst}
use Rattle.c_records.specs.declared.records.FaultRecord.{FaultRecord}
use Rattle.busconf_c.specs.Answers.{AnswersTree, of_list, bad}
use Rattle.c_records.specs.Shown.{TellsNodes}
use Rattle.busconf_c.proofs.read.busconf_read_capture.Goals as goal

pub returns-in-Ok-clause-answer : goal.returns-in-Ok-clause-answer
returns-in-Ok-clause-answer c =
    let by_list : AnswersTree c.args.year c.in-Ok.list c.list_of.new.fault c.read_list.new.fault c.read_list.result (λ t. TellsNodes t c.args.nodes.now c.read_list.new.nodes c.read_list.new.bus c.read_list.result) =
    subst (λ (quads : List ℕ). AnswersTree c.args.year quads c.list_of.new.fault c.read_list.new.fault c.read_list.result (λ t. TellsNodes t c.args.nodes.now c.read_list.new.nodes c.read_list.new.bus c.read_list.result)) c.as_slice.ensures c.read_list.ensures.answer in
    of_list c.in-Ok.list c.in-Ok.ensures.found.0
    (subst (λ (before : FaultRecord). AnswersTree c.args.year c.in-Ok.list before c.read_list.new.fault c.read_list.result (λ t. TellsNodes t c.args.nodes.now c.read_list.new.nodes c.read_list.new.bus c.read_list.result)) c.in-Ok.ensures.found.1 by_list)

pub returns-in-Err-clause-answer : goal.returns-in-Err-clause-answer
returns-in-Err-clause-answer c = bad c.in-Err.ensures.none
