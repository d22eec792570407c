use Rattle.std.proofs.Common.{◌≡◌, ◌≤◌, ◌-◌, ◌∙◌, length, sym, subst, List, ℕ, ap, arith}
use Rattle.script_made.proofs.MadeLines.{length-ends, made-is}
use Rattle.script_made.proofs.MadeSize.{made-short}
use Rattle.script_made.proofs.made.make_script.Goals as goal

pub put_plugs-requires : goal.put_plugs-requires
put_plugs-requires c =
    let count : length c.as_slice.result.now ≡ c.args.n - 1 =
    ap length (c.as_slice.ensures.value ∙ c.in_ok-ends.ensures.ends)
    ∙ length-ends c.new-words.result (c.args.n - 1) in
    omega (arith, count, c.requires.most)

pub put_plugs_again-requires : goal.put_plugs_again-requires
put_plugs_again-requires c =
    let count : length c.as_slice-2.result.now ≡ c.args.n - 1 =
    ap length (c.as_slice-2.ensures.value ∙ c.in_ok-ends.ensures.ends)
    ∙ length-ends c.new-words.result (c.args.n - 1) in
    omega (arith, count, c.requires.most)

pub returns-clause-text : goal.returns-clause-text
returns-clause-text c =
    made-is c.args.n c.args.seed c.new-words.result c.draw_ends.new.words c.in_ok-ends.ends.items
    c.new-out.result.items c.put_nodes.new.out.items c.put_plugs.new.out.items
    c.extend_from_slice.new.self.items c.put_plugs_again.new.out.items
    (rw c.from.ensures at c.new-words.ensures)
    c.in_ok-ends.ensures.ends c.in_ok-ends.ensures.words c.new-out.ensures.items
    c.in_ok-put_nodes.ensures (rw c.as_slice.ensures.value at c.in_ok-put_plugs.ensures)
    c.in_ok-extend_from_slice.ensures.items
    (rw c.as_slice-2.ensures.value at c.in_ok-put_plugs_again.ensures)

pub returns-clause-size : goal.returns-clause-size
returns-clause-size c =
    let Short : List ℕ → Type 0 = λ text. length text ≤ 1048576 in
    subst Short (sym (returns-clause-text c)) (made-short c.args.n c.args.seed c.requires.most)
