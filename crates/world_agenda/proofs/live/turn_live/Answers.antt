use Rattle.std.proofs.Common.{◌≡◌, ◌∙◌, ◌<◌, ℕ, [], length, map, get_or, slice_set, ap, sym, subst, arith, inl, inr}
use Rattle.std.proofs.lemmas.Bool.{cases_eq}
use Rattle.std.proofs.lemmas.List.{length-map, get_or_default, get_or-set_other, length-set}
use Rattle.cabling.specs.NodeSet.{Holds}
use Rattle.cabling.proofs.Lemmas.{none_of_zero}
use Rattle.cable_world.specs.Wire.{arrives, stays}
use Rattle.cable_world.specs.running.Rest.{AreAtRest, AreNone}
use Rattle.world_agenda.proofs.Blend.{blend-start, blend-set, blend-end, less-within}
use Rattle.world_agenda.proofs.LiveRows.{row-stays, row-arrives, row-made, rows-as-long, as-many, at-place}
use Rattle.world_agenda.proofs.live.turn_live.Goals as goal

pub loop-node-init : goal.loop-node-init
loop-node-init c =
    let d = c.args.delay in
    let live = c.args.live.now in
    let givers = c.args.givers.now in
    let left = c.union-left.result in
    let is = c.union-left.ensures.members in
    let old = c.args.wires.now in
    let table = c.args.arrivals.now in
    let rest = c.requires.live.rest in
    let none = c.requires.givers.none in
    record {
      left = λ k has. elim ((is k).0 has) [
        | inl so ↦ c.requires.live.near k so
        | inr so ↦ let less = c.requires.givers.near k so in omega (arith, less, as-many table old c.requires.same)
      ];
      wires = blend-start left (map (map (stays d)) old) old (λ k e inside out. row-stays d live old rest k e inside (λ so. out ((is k).1 (inl so))));
      arrivals = blend-start left (map (map (arrives d)) old) table
          (λ k e inside out. row-arrives d live givers old table c.requires.same rest none k e inside (λ so. out ((is k).1 (inl so))) (λ so. out ((is k).1 (inr so))));
      near = λ k has. absurd (none_of_zero k (subst (λ (n : ℕ). Holds n k) c.none-still.ensures has));
      rest = λ k out off. rest k (λ so. out ((is k).1 (inl so)));
      giving = λ k has. absurd (none_of_zero k (subst (λ (n : ℕ). Holds n k) c.none-giving.ensures has));
      none = λ k out off. none k (λ so. out ((is k).1 (inr so)));
    }

pub turn-requires-clause-same : goal.turn-requires-clause-same
turn-requires-clause-same c =
    let k = c.in-Some.node in
    let old = c.args.wires.now in
    let table = c.args.arrivals.now in
    let inv = c.loop-node.invariant in
    let held = c.in-Some.ensures.held in
    let within : k < length old = inv.left k held in
    let inside : k < length table = omega (arith, within, as-many table old c.requires.same) in
    let row = get_or_default c.loop-node.wires k c.index-wires-at.result [] (omega (arith, inv.wires.long, within)) in
    let came = get_or_default c.loop-node.arrivals k c.index-arrivals-at.result [] (omega (arith, inv.arrivals.long, inside)) in
    ap length (came ∙ inv.arrivals.waits k [] inside held) ∙ rows-as-long table old k c.requires.same inside within
    ∙ sym (ap length (row ∙ inv.wires.waits k [] within held))

pub loop-node-preserved : goal.loop-node-preserved
loop-node-preserved c =
    let d = c.args.delay in
    let k = c.in-Some.node in
    let old = c.args.wires.now in
    let table = c.args.arrivals.now in
    let inv = c.loop-node.invariant in
    let take = c.in-Some.ensures in
    let left = c.loop-node.left in
    let less = c.take_least.new.self in
    let within : k < length old = inv.left k take.held in
    let inside : k < length table = omega (arith, within, as-many table old c.requires.same) in
    let row = c.index-wires-at.result in
    let was : row ≡ get_or old k row = c.index-wires-at.is ∙ inv.wires.waits k row within take.held in
    let turned = c.in_ok-turn.ensures in
    let note = c.note_live.ensures in
    let given = c.note_giver.ensures in
    let rows = c.loop-node.wires in
    let arrivals = c.loop-node.arrivals in
    let new = c.turn.new.self in
    let came = c.turn.new.arrivals in
    record {
      left = λ j has. inv.left j (less-within left less k take.others take.gone j has);
      wires = blend-set left less k (map (map (stays d)) old) old rows new take.others take.gone inv.wires within
          (λ e. row-made (map (stays d)) old k row new e within was (turned.stays ∙ ap (map (stays d)) (sym c.index-wires-at.is)));
      arrivals = blend-set left less k (map (map (arrives d)) old) table arrivals came take.others take.gone inv.arrivals inside
          (λ e. row-made (map (arrives d)) old k row came e within was (turned.arrives ∙ ap (map (arrives d)) (sym c.index-wires-at.is)));
      near = λ j has. elim (cases_eq j k) [
        | inl e ↦ omega (arith, e, within)
        | inr ne ↦ inv.near j ((note.others j ne).0 has)
      ];
      rest = λ j out off. elim (cases_eq j k) [
        | inl e ↦
            at-place AreAtRest (slice_set rows k new) j k c.index-wires-at-in-Some.result [] (omega (arith, length-set rows k new, inv.wires.long, within)) e
            (note.rest (λ has. off (subst (λ (i : ℕ). Holds c.note_live.new.live i) (sym e) has)))
        | inr ne ↦ subst AreAtRest (sym (get_or-set_other rows k j new [] ne)) (inv.rest j (λ has. out ((take.others j ne).1 has)) (λ has. off ((note.others j ne).1 has)))
      ];
      giving = λ j has. elim (cases_eq j k) [
        | inl e ↦ omega (arith, e, within)
        | inr ne ↦ inv.giving j ((given.others j ne).0 has)
      ];
      none = λ j out off. elim (cases_eq j k) [
        | inl e ↦
            at-place AreNone (slice_set arrivals k came) j k c.index-arrivals-at-in-Some.result [] (omega (arith, length-set arrivals k came, inv.arrivals.long, inside)) e
            (given.none (λ has. off (subst (λ (i : ℕ). Holds c.note_giver.new.givers i) (sym e) has)))
        | inr ne ↦ subst AreNone (sym (get_or-set_other arrivals k j came [] ne)) (inv.none j (λ has. out ((take.others j ne).1 has)) (λ has. off ((given.others j ne).1 has)))
      ];
    }

pub returns-clause-stays : goal.returns-clause-stays
returns-clause-stays c =
    let old = c.args.wires.now in
    let f = map (stays c.args.delay) in
    blend-end c.loop-node.left (map f old) old c.loop-node.wires c.in_default.ensures.none (length-map old f) c.loop-node.invariant.wires

pub returns-clause-arrives : goal.returns-clause-arrives
returns-clause-arrives c =
    let old = c.args.wires.now in
    let table = c.args.arrivals.now in
    let f = map (arrives c.args.delay) in
    blend-end c.loop-node.left (map f old) table c.loop-node.arrivals c.in_default.ensures.none (length-map old f ∙ sym (as-many table old c.requires.same))
    c.loop-node.invariant.arrivals
