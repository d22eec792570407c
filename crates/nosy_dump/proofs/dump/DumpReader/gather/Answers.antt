use Rattle.std.proofs.Common.{◌∙◌, ◌++◌, ◌+◌, ℕ, List, length, take, drop, refl, append-nil, sym, ap, subst, length-drop, arith}
use Rattle.std.proofs.lemmas.List.{take_rest}
use Rattle.reset_list.specs.declared.form.LogForm.{LogForm}
use Rattle.nosy_dump.specs.Record.{IsOpen}
use Rattle.nosy_dump.specs.codings.Going.{Stays, Leads}
use Rattle.nosy_dump.proofs.Going.{came_on, came_all, few_left, some_left, stays_open, stopped}
use Rattle.nosy_dump.proofs.AsJson.{gather_none, gather_both}
use Rattle.nosy_dump.proofs.Fronts.{leads, leads_more, leads_stays}
use Rattle.nosy_dump.proofs.dump.DumpReader.gather.Goals as goal

pub loop-at-init : goal.loop-at-init
loop-at-init c = (
  λ done text few st. rw append-nil st,
  refl,
  omega arith,
  gather_none c.args.self.now.form c.args.out.now.items,
)

pub loop-at-preserved : goal.loop-at-preserved
loop-at-preserved c =
    let so = c.loop-at.invariant in
    let rest = take_rest c.args.bytes.now c.loop-at.at in (
      λ done text few st.
          stays_open c.in_ok-count.size c.take_front.new.self _ _ (sym c.is_some.ensures
          ∙ c.if-is_some.false)
          (subst (λ (l : List ℕ). Stays c.in_ok-count.size c.take_front.new.self l
          (text ++ c.take_front.new.out.items))
          (came_on done c.args.bytes.now _ c.loop-at.at c.in_ok-count.count rest)
          (c.in_ok-count.ensures.ok (done ++ take c.loop-at.at c.args.bytes.now) text
          (few_left done c.args.bytes.now _ c.loop-at.at rest c.loop-at-test.true few)
          (some_left c.args.bytes.now _ c.loop-at.at rest c.loop-at-test.true)
          (so.0 done text few st))),
      c.in_ok-count.ensures.same ∙ so.1,
      omega (
        arith,
        c.in_ok-count.ensures.few,
        ap (λ (l : List ℕ). length l) rest,
        length-drop
            c.loop-at.at c.args.bytes.now,
        c.loop-at-test.true,
      ),
      gather_both c.args.self.now.form c.loop-at.self.form _ _ _ so.1 so.3
          c.in_ok-count.ensures.json,
    )

pub returns-then-is_some-clause-json : goal.returns-then-is_some-clause-json
returns-then-is_some-clause-json c =
    gather_both c.args.self.now.form c.loop-at.self.form _ _ _ c.loop-at.invariant.1
    c.loop-at.invariant.3 c.in_ok-count.ensures.json

pub returns-then-is_some-clause-ok : goal.returns-then-is_some-clause-ok
returns-then-is_some-clause-ok c = λ done text few st.
    let so = c.loop-at.invariant in
    let rest = take_rest c.args.bytes.now c.loop-at.at in
    let at = c.loop-at.at + c.in_ok-count.count in
    let stays : Stays c.in_ok-count.size c.take_front.new.self (done ++ take at c.args.bytes.now)
    (text ++ c.take_front.new.out.items) =
    subst (λ (l : List ℕ). Stays c.in_ok-count.size c.take_front.new.self l
    (text ++ c.take_front.new.out.items))
    (came_on done c.args.bytes.now _ c.loop-at.at c.in_ok-count.count rest)
    (c.in_ok-count.ensures.ok (done ++ take c.loop-at.at c.args.bytes.now) text
    (few_left done c.args.bytes.now _ c.loop-at.at rest c.loop-at-test.true few)
    (some_left c.args.bytes.now _ c.loop-at.at rest c.loop-at-test.true) (so.0 done text few st))
    in
    stopped c.in_ok-count.size c.take_front.new.self (done ++ take at c.args.bytes.now)
    (done ++ c.args.bytes.now) (drop at c.args.bytes.now) _ (sym c.is_some.ensures
    ∙ c.if-is_some.true)
    (came_all done c.args.bytes.now at) stays

pub returns-then-is_some-clause-front : goal.returns-then-is_some-clause-front
returns-then-is_some-clause-front c = λ done text few st.
    let so = c.loop-at.invariant in
    let rest = take_rest c.args.bytes.now c.loop-at.at in
    let at = c.loop-at.at + c.in_ok-count.count in
    let stays : Stays c.in_ok-count.size c.take_front.new.self (done ++ take at c.args.bytes.now)
    (text ++ c.take_front.new.out.items) =
    subst (λ (l : List ℕ). Stays c.in_ok-count.size c.take_front.new.self l
    (text ++ c.take_front.new.out.items))
    (came_on done c.args.bytes.now _ c.loop-at.at c.in_ok-count.count rest)
    (c.in_ok-count.ensures.ok (done ++ take c.loop-at.at c.args.bytes.now) text
    (few_left done c.args.bytes.now _ c.loop-at.at rest c.loop-at-test.true few)
    (some_left c.args.bytes.now _ c.loop-at.at rest c.loop-at-test.true) (so.0 done text few st))
    in
    subst (λ (s : LogForm). Leads s (done ++ c.args.bytes.now) (text ++ c.take_front.new.out.items))
    (c.in_ok-count.ensures.same ∙ so.1)
    (leads_more c.take_front.new.self.form (done ++ take at c.args.bytes.now)
    (drop at c.args.bytes.now) (done ++ c.args.bytes.now) _ (came_all done c.args.bytes.now at)
    (leads_stays c.in_ok-count.size c.take_front.new.self _ _ stays))

pub returns-in_err-count-clause-front : goal.returns-in_err-count-clause-front
returns-in_err-count-clause-front c = λ done text few st.
    let so = c.loop-at.invariant in
    rw c.in_err-count.ensures.part
    (subst (λ (s : LogForm). Leads s (done ++ c.args.bytes.now) (text ++ c.loop-at.out.items)) so.1
    (leads_more c.loop-at.self.form (done ++ take c.loop-at.at c.args.bytes.now)
    (drop c.loop-at.at c.args.bytes.now) (done ++ c.args.bytes.now) _
    (came_all done c.args.bytes.now c.loop-at.at)
    (leads IsOpen c.loop-at.self _ _ (so.0 done text few st))))

pub returns-clause-front : goal.returns-clause-front
returns-clause-front c = λ done text few st.
    let so = c.loop-at.invariant in
    subst (λ (s : LogForm). Leads s (done ++ c.args.bytes.now) (text ++ c.loop-at.out.items)) so.1
    (leads_more c.loop-at.self.form (done ++ take c.loop-at.at c.args.bytes.now)
    (drop c.loop-at.at c.args.bytes.now) (done ++ c.args.bytes.now) _
    (came_all done c.args.bytes.now c.loop-at.at)
    (leads IsOpen c.loop-at.self _ _ (so.0 done text few st)))
