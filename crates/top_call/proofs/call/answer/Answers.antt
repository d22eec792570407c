use Rattle.std.proofs.Common.{inl, inr, ◌<◌, [], refl, subst}
use Rattle.std.proofs.lemmas.List.Elements.{All-nil}
use Rattle.top_call.proofs.Answering.{of_told, only_one, of_asked, of_unread}
use Rattle.top_call.proofs.call.answer.Goals as goal

pub answer_asked-requires-clause-one : goal.answer_asked-requires-clause-one
answer_asked-requires-clause-one g c = λ bytes s r a b x y.
    let asks = (c.in-Some.ensures c.in-Some.asked).0 refl in
    c.requires.one bytes s r a b (inl (c.in-Some.asked, asks, x)) (inl (c.in-Some.asked, asks, y))

pub returns-in-Some-clause-streams : goal.returns-in-Some-clause-streams
returns-in-Some-clause-streams g c =
    let is = c.answer_asked.ensures in
    let asked = c.in-Some.asked in
    let asks = (c.in-Some.ensures asked).0 refl in
    let left = g.S.Source.left c.args.source.now in
    let fit = g.met.S.Source.fit c.args.source.now in
    let some = c.requires.some in
    let Asks = g.A.Asked.asks c.args.words.now in
    let only = only_one Asks asked c.in-Some.ensures in
    let answers = of_asked Asks g.A.Asked.answers asked asks only in
    let unread = of_unread Asks g.A.Asked.is_unread asked only in
    record {
      few = is.status;
      answer = λ which. of_told left _ _ fit (λ bytes fits w. (w.0, inl (asked, asks, w.1), w.2)) (is.answer which);
      end = λ which none. is.end which (λ un. none (asked, asks, un));
      read_fault = is.read_fault;
      write_fault = is.write_fault;
      too_long = is.too_long;
      unread = λ which. elim which [ inl two ↦ absurd (is.form two) | inr un ↦ is.unread (unread un) ];
      unwritten = is.unwritten;
      part = λ four. of_told left _ _ fit (λ bytes fits w. (w.0, w.1, inl (asked, asks, w.2), w.3)) (is.part four);
      exact = of_told left _ _ fit (λ bytes fits h. record { holds = λ s x a. h s x (answers bytes s x a); some = some bytes fits }) is.exact;
      complete = λ reads writes.
          of_told left _ _ fit (λ bytes fits h few. record { holds = λ s x a. h few s x (answers bytes s x a); some = some bytes fits })
          (is.complete reads writes);
      sure = of_told left _ _ fit (λ bytes fits h. record { holds = λ s x a. h s x (answers bytes s x a); some = some bytes fits }) is.sure;
      alone = λ un. record { holds = λ s x a. is.alone (unread un) s x (answers [] s x a); some = some [] (All-nil (λ b. b < 256)) };
    }

pub returns-in-Some-clause-unfailing : goal.returns-in-Some-clause-unfailing
returns-in-Some-clause-unfailing g c = λ un.
    let Asks = g.A.Asked.asks c.args.words.now in
    let only = only_one Asks c.in-Some.asked c.in-Some.ensures in
    c.answer_asked.ensures.unfailing (of_unread Asks g.A.Asked.is_unread c.in-Some.asked only un)

pub returns-in-Some-clause-tells : goal.returns-in-Some-clause-tells
returns-in-Some-clause-tells g c = λ which asked asks.
    let only = only_one (g.A.Asked.asks c.args.words.now) c.in-Some.asked c.in-Some.ensures in
    let told = c.answer_asked.ensures.tells which in
    let status = c.answer_asked.result in
    let tells = subst (λ (a : _). g.A.Asked.tells a told.0 status told.2) (only asked asks) told.3 in
    (told.0, told.1, told.2, tells, told.4)
