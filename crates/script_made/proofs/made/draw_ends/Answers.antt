use Rattle.std.proofs.Common.{◌≡◌, ◌+◌, ◌∙◌, length, ap, arith}
use Rattle.script_made.proofs.MadeLines.{length-free, words_more, free_more, ends_more}
use Rattle.script_made.proofs.made.draw_ends.Goals as goal

pub take_end-requires : goal.take_end-requires
take_end-requires c =
    let all : length c.loop-cable.free.items ≡ c.loop-cable.cable + 3 =
    ap length c.loop-cable.invariant.free ∙ length-free c.args.words.now c.loop-cable.cable in
    omega (arith, all)

pub loop-cable-preserved : goal.loop-cable-preserved
loop-cable-preserved c = record {
  words =
      words_more c.args.words.now c.loop-cable.words c.take_end.new.words c.loop-cable.cable
      c.loop-cable.invariant.words c.take_end.ensures.words;
  free =
      free_more c.args.words.now c.loop-cable.words c.loop-cable.cable c.loop-cable.free.items
      c.take_end.new.free.items c.loop-cable.invariant.words c.loop-cable.invariant.free
      c.in_ok-end.ensures.free;
  ends =
      ends_more c.args.words.now c.loop-cable.words c.loop-cable.cable c.in_ok-end.end
      c.loop-cable.free.items c.loop-cable.ends.items c.push.new.self.items
      c.loop-cable.invariant.words c.loop-cable.invariant.free c.loop-cable.invariant.ends
      c.in_ok-end.ensures.end c.in_ok-push.ensures.items;
}
