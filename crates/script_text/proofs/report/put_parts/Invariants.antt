use Rattle.std.proofs.Common.{take}
use Rattle.script_text.specs.ReportText.{ArePartTexts}
use Rattle.script_text.specs.codings.Appended.{IsAppended}
use Rattle.script_text.proofs.report.put_parts.Given as goal

abbrev pub invariant-loop-part : goal.invariant-loop-part
invariant-loop-part l =
    IsAppended l.initial.out.items (ArePartTexts l.names (take l.part-index l.parts)) l.out.items
