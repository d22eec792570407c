use Rattle.std.proofs.Common.{◌++◌, ◌∷◌, length, length-append, ap, refl, ◌∙◌, arith, []}
use Rattle.cabling.specs.Wiring.{ports_of}
use Rattle.cabling.specs.codings.Visits.{next_visits}
use Rattle.cabling.proofs.Waiting.{AllGoing, all_first, all_next, all_last, all_room, all_there}
use Rattle.cabling.proofs.wiring.Cabling.visits.Goals as goal

pub loop-visit-init : goal.loop-visit-init
loop-visit-init c = all_first c.args.self.now c.args.root c.push.new.self c.new-done.result c.requires.there (rw c.new-waiting.ensures at c.push.ensures) c.new-done.ensures

pub push-requires-in-Some : goal.push-requires-in-Some
push-requires-in-Some c =
    omega (arith, all_room c.args.self.now c.args.root c.loop-visit.waiting c.loop-visit.done c.requires.small c.loop-visit.invariant, ap length c.in-Some.ensures, length-append c.pop.new.self (c.in-Some.visit ∷ []))

pub go_on-requires : goal.go_on-requires
go_on-requires c =
    let next : AllGoing c.args.self.now c.args.root (c.pop.new.self ++ next_visits c.in-Some.visit.from 0 (ports_of c.args.self.now c.in-Some.visit.node)) c.push-in-Some.new.self =
    all_next c.args.self.now c.args.root c.loop-visit.waiting c.pop.new.self c.loop-visit.done (c.pop.new.self ++ next_visits c.in-Some.visit.from 0 (ports_of c.args.self.now c.in-Some.visit.node)) c.push-in-Some.new.self c.in-Some.visit
    c.cables_are_two_ended.ensures c.in-Some.ensures c.push-in-Some.ensures refl c.loop-visit.invariant in
    record {
      node = all_there c.args.self.now c.args.root c.loop-visit.waiting c.pop.new.self c.loop-visit.done c.in-Some.visit c.requires.small c.in-Some.ensures c.loop-visit.invariant;
      room = omega (
        arith,
        all_room c.args.self.now c.args.root (c.pop.new.self ++ next_visits c.in-Some.visit.from 0 (ports_of c.args.self.now c.in-Some.visit.node)) c.push-in-Some.new.self c.requires.small next,
        length-append c.pop.new.self (next_visits c.in-Some.visit.from 0 (ports_of c.args.self.now c.in-Some.visit.node)),
      );
    }

pub loop-visit-preserved : goal.loop-visit-preserved
loop-visit-preserved c = all_next c.args.self.now c.args.root c.loop-visit.waiting c.pop.new.self c.loop-visit.done c.go_on.new.waiting c.push-in-Some.new.self c.in-Some.visit
    c.cables_are_two_ended.ensures c.in-Some.ensures c.push-in-Some.ensures c.go_on.ensures c.loop-visit.invariant

pub loop-visit-smaller : goal.loop-visit-smaller
loop-visit-smaller c =
    omega (
      arith,
      ap length c.push-in-Some.ensures,
      length-append c.loop-visit.done (c.in-Some.visit ∷ []),
      all_room c.args.self.now c.args.root c.loop-visit.waiting c.loop-visit.done c.requires.small c.loop-visit.invariant,
      ap length c.in-Some.ensures,
      length-append c.pop.new.self (c.in-Some.visit ∷ []),
    )

pub returns : goal.returns
returns c = λ label tree h. c.in_reverse.ensures ∙ all_last c.args.self.now c.args.root c.loop-visit.waiting c.loop-visit.done c.in_default.ensures.0 c.loop-visit.invariant label tree h
