use Rattle.std.proofs.Common.{refl, sym, ◌∙◌, ap, subst}
use Rattle.bus_json.specs.Lines.{AreJsonLines, none}
use Rattle.bus_view.specs.Answer.{has_text, has_fault}
use Rattle.bus_view.specs.Explained.{no_fault}
use Rattle.bus_view.proofs.explain.view_explain.Goals as goal

pub returns-in_ok-from_slice-in-Ok-clause-told : goal.returns-in_ok-from_slice-in-Ok-clause-told
returns-in_ok-from_slice-in-Ok-clause-told c =
    has_text c.in-Ok._text.items refl c.in-Ok.ensures.told (c.in_ok-from_slice-in-Ok.ensures.items ∙ c.as_bytes.ensures.value ∙ c.no_fault.ensures)

pub returns-in_ok-from_slice-in-Ok-clause-json : goal.returns-in_ok-from_slice-in-Ok-clause-json
returns-in_ok-from_slice-in-Ok-clause-json c =
    λ json. subst AreJsonLines (sym (c.in_ok-from_slice-in-Ok.ensures.items ∙ c.as_bytes.ensures.value ∙ c.no_fault.ensures ∙ ap no_fault json)) none

pub returns-in_ok-all_explained-in-Err-Fault-clause-told : goal.returns-in_ok-all_explained-in-Err-Fault-clause-told
returns-in_ok-all_explained-in-Err-Fault-clause-told c =
    has_fault c.in-Err-Fault.fault refl (rw c.in-Err-Fault.field-0-is at c.in-Err-Fault.ensures.refused)
    c.in_ok-all_explained-in-Err-Fault.ensures.told
