use Rattle.std.proofs.Common.{◌≡◌, ℕ, List, ap, subst, sym, ◌∙◌}
use Rattle.std.proofs.lemmas.Result.{IfOk-weaker}
use Rattle.quad_lanes.specs.Capture.{capture}
use Rattle.capture_reading.specs.Capture.{IsCaptureOf}
use Rattle.flawed_capture.specs.declared.flaw.Flaw.{Flaw}
use Rattle.flawed_capture.specs.SeededFlaw.{bytes_by}
use Rattle.flawed_capture.proofs.Changed.{of_list, of_spoilt}
use Rattle.flawed_capture.proofs.Seeded.{of_list_by}
use Rattle.flawed_capture.proofs.change.spoilt_capture.Goals as goal

pub returns-in_ok-spoilt-in_default : goal.returns-in_ok-spoilt-in_default
returns-in_ok-spoilt-in_default c =
    let list = c.args.list.now in
    let spoilt = c.in_ok-spoilt-in_default.spoilt.items in
    let flaw = c.args.flaw in
    let told = c.in_ok-spoilt-in_default.ensures in
    record {
      spoilt = IfOk-weaker c.captured.result _ _ (λ bytes h.
          let here = subst (λ (l : List ℕ). IsCaptureOf l bytes.items) c.deref.ensures.value h in
          of_spoilt flaw list spoilt bytes.items c.in_default.not-BadLength c.in_default.not-BadInverse told.spoilt here.bytes_are) c.captured.ensures;
      sure = IfOk-weaker c.captured.result _ _ (λ bytes h. λ nodes bus enough comes.
          let here = subst (λ (l : List ℕ). IsCaptureOf l bytes.items) c.deref.ensures.value h in
          of_list c.args.standard flaw spoilt bytes.items here
          (told.sure c.in_default.not-BadLength c.in_default.not-BadInverse nodes bus enough comes)) c.captured.ensures;
      value = IfOk-weaker c.captured.result _ _ (λ bytes h.
          let here = subst (λ (l : List ℕ). IsCaptureOf l bytes.items) c.deref.ensures.value h in
          here.bytes_are ∙ ap capture told.value
          ∙ of_list_by c.args.standard flaw list c.args.at c.args.word c.in_default.not-BadLength c.in_default.not-BadInverse) c.captured.ensures;
    }

pub returns-in-BadLength-clause-value : goal.returns-in-BadLength-clause-value
returns-in-BadLength-clause-value c =
    IfOk-weaker c.cut_capture.result _ _ (λ bytes h.
    subst (λ (f : Flaw). bytes.items ≡ bytes_by c.args.standard f c.args.list.now c.args.at c.args.word) (sym c.in-BadLength.is)
    (h c.args.standard)) c.cut_capture.ensures.value

pub returns-in-BadInverse-clause-value : goal.returns-in-BadInverse-clause-value
returns-in-BadInverse-clause-value c =
    IfOk-weaker c.turned_capture.result _ _ (λ bytes h.
    subst (λ (f : Flaw). bytes.items ≡ bytes_by c.args.standard f c.args.list.now c.args.at c.args.word) (sym c.in-BadInverse.is)
    (h c.args.standard)) c.turned_capture.ensures.value
