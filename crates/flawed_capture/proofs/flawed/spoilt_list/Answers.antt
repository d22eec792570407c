use Rattle.std.proofs.Common.{◌≡◌, ◌+◌, ◌%◌, ℕ, List, length, ap, subst, sym, ◌∙◌, arith, rules}
use Rattle.std.proofs.lemmas.Grind.{common_steps}
use borrow.Author.Count.{below_more}
use Rattle.flawed_capture.specs.Flaw.{HasFlaw}
use Rattle.flawed_capture.specs.Draws.{behind}
use Rattle.flawed_capture.specs.SeededFlaw.{first_place, tried}
use Rattle.flawed_capture.specs.Spoilt.{ComesAt}
use Rattle.flawed_capture.proofs.Changed.{some_place}
use Rattle.flawed_capture.proofs.Seeded.{words_more, tried_here}
use Rattle.flawed_capture.proofs.Tried.{is_tried}
use Rattle.flawed_capture.proofs.flawed.spoilt_list.Goals as goal

pub loop-step-init : goal.loop-step-init
loop-step-init c = record {
  places = λ nodes bus enough k below. absurd (omega (arith, below));
  none = λ k below. absurd (omega (arith, below));
  words = c.next_word.ensures.rest;
}

pub loop-step-preserved : goal.loop-step-preserved
loop-step-preserved c =
    let list = c.args.list.now in
    let count = length list in
    let first = c.first_place-first.result in
    let bytes = c.in_ok-bytes.bytes.items in
    let is : bytes ≡ tried c.args.standard c.args.flaw list c.args.words.now c.loop-step.step =
    tried_here c.args.standard c.args.flaw list c.args.words.now c.loop-step.words c.loop-step.step first c.next_word-in-loop-step.result bytes
    (c.first_place-first.ensures.value ∙ ap (first_place count) c.next_word.ensures.word)
    c.loop-step.invariant.words c.next_word-in-loop-step.ensures.word c.in_ok-bytes.ensures.value in
    let has : HasFlaw c.args.standard bytes c.args.flaw → ⊥ = λ h.
    let read = subst (λ (b : List ℕ). HasFlaw c.args.standard b c.args.flaw) (sym c.deref.ensures.value) h in
    let found = c.in_ok-flaw_of.ensures.only c.args.flaw read in
    let test = rw found at c.eq.ensures in
    absurd (first_of (cc, search rules, grind (arith, common_steps))) in
    record {
      places = λ nodes bus enough.
          below_more (λ k. ComesAt c.args.standard c.args.flaw list ((first + k) % count) → ⊥) c.loop-step.step
          (c.loop-step.invariant.places nodes bus enough) (λ comes. has (c.in_ok-bytes.ensures.sure nodes bus enough comes));
      none =
          below_more (λ k. HasFlaw c.args.standard (tried c.args.standard c.args.flaw list c.args.words.now k) c.args.flaw → ⊥) c.loop-step.step
          c.loop-step.invariant.none (λ h. has (subst (λ (b : List ℕ). HasFlaw c.args.standard b c.args.flaw) (sym is) h));
      words = c.next_word-in-loop-step.ensures.rest ∙ ap behind c.loop-step.invariant.words ∙ words_more c.loop-step.step (behind c.args.words.now);
    }

pub returns-then-eq-clause-first : goal.returns-then-eq-clause-first
returns-then-eq-clause-first c =
    let list = c.args.list.now in
    let bytes = c.in_ok-bytes.bytes.items in
    record {
      step = c.loop-step.step;
      none_before = c.loop-step.invariant.none;
      bytes_are =
          tried_here c.args.standard c.args.flaw list c.args.words.now c.loop-step.words c.loop-step.step c.first_place-first.result
          c.next_word-in-loop-step.result bytes
          (c.first_place-first.ensures.value ∙ ap (first_place (length list)) c.next_word.ensures.word)
          c.loop-step.invariant.words c.next_word-in-loop-step.ensures.word c.in_ok-bytes.ensures.value;
    }

pub returns-clause-found : goal.returns-clause-found
returns-clause-found c = λ nodes bus enough e.
    let list = c.args.list.now in
    let first = c.first_place-first.result in
    let place = some_place c.args.standard c.args.flaw nodes list bus enough c.requires.some in
    is_tried first (length list) c.loop-step.step place.0
    c.first_place-first.ensures.within c.loop-step-test.false place.1
    (λ k below same. c.loop-step.invariant.places nodes bus enough k below (subst (ComesAt c.args.standard c.args.flaw list) (sym same) place.2))
