use Rattle.std.proofs.Common.{ℕ, List, ◌∙◌, ap, subst}
use Rattle.c_border.specs.Places.{IsCopied}
use Rattle.script_run.specs.Line.{script_line}
use Rattle.script_c.proofs.text.busconf_script_fault_text.Goals as goal

pub returns-clause-line : goal.returns-clause-line
returns-clause-line c = λ some few.
    subst (λ (text : List ℕ). IsCopied text c.args.place.now c.tell_bytes.new.place c.tell_bytes.new.needed c.tell_bytes.result)
    (c.as_bytes.ensures ∙ c.script_line-line.ensures ∙ ap script_line c.fault_in.ensures) c.tell_bytes.ensures
