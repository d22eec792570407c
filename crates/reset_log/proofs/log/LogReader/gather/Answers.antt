use Rattle.std.proofs.Common.{◌∙◌, ◌++◌, ◌∷◌, [], ℕ, List, refl, sym, ap, subst, append_assoc, append-nil}
use Rattle.reset_log.specs.codings.Going.{HasShown}
use Rattle.reset_log.proofs.Standing.{after_bytes}
use Rattle.reset_log.proofs.Fronts.{begun_so_far}
use Rattle.reset_log.proofs.Going.{took_on, few_on, few_left, few_next}
use Rattle.reset_log.proofs.InJson.{gathered_none, gathered_next}
use Rattle.log_line.proofs.Lemmas.{no_mark, unmarked_line, unmarked_behind}
use Rattle.log_line.specs.Marks.{has_mark}
use Rattle.reset_log.proofs.log.LogReader.gather.Goals as goal

pub loop-line-init : goal.loop-line-init
loop-line-init c = (
  [],
  refl,
  λ done text few h.
      subst (λ (l : List ℕ). HasShown c.args.self.now l (text ++ c.args.out.now.items))
      (sym (append-nil done)) h,
  refl,
  gathered_none c.args.self.now.form c.args.out.now.items _ refl,
  no_mark (has_mark c.args.bytes.now) c.has_mark-quiet.result c.has_mark-quiet.ensures,
)

pub loop-line-preserved : goal.loop-line-preserved
loop-line-preserved c =
    let so = c.loop-line.invariant in
    let next = took_on c.args.bytes.now so.0 c.loop-line.rest.now c.in-Some.line.now
    c.in-Some.behind.now so.1 c.in-Some.ensures.cut in (
      so.0 ++ (c.in-Some.line.now ++ 10 ∷ []),
      next,
      λ done text few h.
          subst (λ (l : List ℕ). HasShown c.end_line.new.self l (text ++ c.end_line.new.out.items))
          (append_assoc done so.0 (c.in-Some.line.now ++ 10 ∷ []))
          (c.in_ok-end_line.ensures.ok (done ++ so.0) text c.in-Some.ensures.first
          (few_next done c.args.bytes.now so.0 c.loop-line.rest.now c.in-Some.line.now
          c.in-Some.behind.now so.1 c.in-Some.ensures.cut few) (so.2 done text few h)),
      c.in_ok-end_line.ensures.same ∙ so.3,
      gathered_next c.args.self.now.form c.loop-line.self.form c.args.out.now.items
          c.loop-line.out.items _ so.3 so.4 c.in_ok-end_line.ensures.json,
      λ quiet.
          let here = c.in-Some in
          unmarked_behind c.loop-line.rest.now here.line.now here.behind.now here.ensures.cut
          (so.5 quiet),
    )

pub loop-line-smaller : goal.loop-line-smaller
loop-line-smaller c =
    few_left c.loop-line.rest.now c.in-Some.line.now c.in-Some.behind.now c.in-Some.ensures.cut

pub returns-clause-ok : goal.returns-clause-ok
returns-clause-ok c = λ done text few h.
    let so = c.loop-line.invariant in
    subst (λ (l : List ℕ). HasShown c.keep.new.self l (text ++ c.loop-line.out.items))
    (append_assoc done so.0 c.loop-line.rest.now ∙ ap (λ (l : List ℕ). done ++ l) (sym so.1))
    (after_bytes c.loop-line.self c.keep.new.self (done ++ so.0) c.loop-line.rest.now
    (text ++ c.loop-line.out.items) c.in_default.ensures.whole
    (few_on done c.args.bytes.now so.0 c.loop-line.rest.now so.1 few) (so.2 done text few h)
    c.in_ok-keep.ensures)

pub returns-clause-begun : goal.returns-clause-begun
returns-clause-begun c = λ done text few h.
    let so = c.loop-line.invariant in
    begun_so_far c.args.self.now.form c.loop-line.self done c.args.bytes.now so.0
    c.loop-line.rest.now text c.loop-line.out.items (so.2 done text few h) so.1 so.3

pub returns-in_err-end_line-clause-begun : goal.returns-in_err-end_line-clause-begun
returns-in_err-end_line-clause-begun c = λ done text few h.
    let so = c.loop-line.invariant in
    rw c.in_err-end_line.ensures.part
    (begun_so_far c.args.self.now.form c.loop-line.self done c.args.bytes.now so.0
    c.loop-line.rest.now text c.loop-line.out.items (so.2 done text few h) so.1 so.3)

pub returns-in_err-keep-clause-begun : goal.returns-in_err-keep-clause-begun
returns-in_err-keep-clause-begun c = λ done text few h.
    let so = c.loop-line.invariant in
    begun_so_far c.args.self.now.form c.loop-line.self done c.args.bytes.now so.0
    c.loop-line.rest.now text c.loop-line.out.items (so.2 done text few h) so.1 so.3

pub returns-in_err-end_line-clause-json : goal.returns-in_err-end_line-clause-json
returns-in_err-end_line-clause-json c =
    let so = c.loop-line.invariant in
    gathered_next c.args.self.now.form c.loop-line.self.form c.args.out.now.items
    c.loop-line.out.items _ so.3 so.4 c.in_err-end_line.ensures.json

pub returns-in_err-keep-clause-json : goal.returns-in_err-keep-clause-json
returns-in_err-keep-clause-json c = c.loop-line.invariant.4

pub returns-clause-json : goal.returns-clause-json
returns-clause-json c = c.loop-line.invariant.4

pub end_line-requires : goal.end_line-requires
end_line-requires c = record {
  unmarked =
      λ quiet.
      let here = c.in-Some in
      let left = c.loop-line.rest.now in
      unmarked_line left here.line.now here.behind.now here.ensures.cut
      (c.loop-line.invariant.5 quiet);
}
