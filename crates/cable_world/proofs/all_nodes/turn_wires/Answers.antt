use Rattle.std.proofs.Common.{◌∙◌, ◌≡◌, length, map, arith, ap, refl, sym}
use Rattle.std.proofs.lemmas.List.{length-map}
use Rattle.cable_world.specs.Wire.{arrives, stays}
use Rattle.cable_world.proofs.running.Mixed.{next-is, mixed-map}
use Rattle.cable_world.proofs.running.AllNodes.{same-row}
use Rattle.cable_world.proofs.all_nodes.turn_wires.Goals as goal

pub turn-requires-clause-same : goal.turn-requires-clause-same
turn-requires-clause-same c =
    let k = c.loop-at.at in
    let old = c.args.wires.now in
    let first = c.args.arrivals.now in
    let d = c.args.delay in
    let long : length first ≡ length old = omega (arith, length-map first length, length-map old length, ap length c.requires.same) in
    let row = next-is k (map (map (stays d)) old) old c.loop-at.wires c.index-wires-at.result
    (length-map old (map (stays d))) c.loop-at-test.true c.loop-at.invariant.wires c.index-wires-at.is in
    let there = next-is k (map (map (arrives d)) old) first c.loop-at.arrivals c.index-arrivals-at.result
    (length-map old (map (arrives d)) ∙ sym long) (omega (arith, long)) c.loop-at.invariant.arrivals c.index-arrivals-at.is in
    ap length (sym c.index-arrivals-at.is)
    ∙ same-row first old k c.index-arrivals-at.result c.index-wires-at.result c.requires.same c.loop-at-test.true there row
    ∙ ap length c.index-wires-at.is

pub loop-at-preserved : goal.loop-at-preserved
loop-at-preserved c =
    let k = c.loop-at.at in
    let old = c.args.wires.now in
    let first = c.args.arrivals.now in
    let d = c.args.delay in
    let long : length old ≡ length first = omega (arith, length-map first length, length-map old length, ap length c.requires.same) in
    let r = c.index-wires-at.result in
    let row = next-is k (map (map (stays d)) old) old c.loop-at.wires r
    (length-map old (map (stays d))) c.loop-at-test.true c.loop-at.invariant.wires c.index-wires-at.is in
    record {
      wires =
          mixed-map (map (stays d)) k old old c.loop-at.wires r c.turn.new.self refl c.loop-at-test.true c.loop-at.invariant.wires row
          (c.in_ok-turn.ensures.stays ∙ ap (map (stays d)) (sym c.index-wires-at.is));
      arrivals =
          mixed-map (map (arrives d)) k old first c.loop-at.arrivals r c.turn.new.arrivals long c.loop-at-test.true c.loop-at.invariant.arrivals row
          (c.in_ok-turn.ensures.arrives ∙ ap (map (arrives d)) (sym c.index-wires-at.is));
    }
