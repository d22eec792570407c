use Rattle.std.proofs.Common.{◌≡◌, ◌+◌, ℕ, ap}
use Rattle.rand_pcg.specs.Lcg.{Lcg}
use Rattle.rand_pcg.specs.Pcg.{pcg32}
use Rattle.script_made.proofs.MadeLines.{words_more, again_more}
use Rattle.script_made.proofs.made.put_plugs_again.Goals as goal

pub loop-end-preserved : goal.loop-end-preserved
loop-end-preserved c =
    let drawn : c.next_word.result ≡ (pcg32 c.loop-end.words).0 =
    ap (λ (p : ℕ × Lcg). p.0) c.next_word.ensures in
    let next : c.next_word.new.self ≡ (pcg32 c.loop-end.words).1 =
    ap (λ (p : ℕ × Lcg). p.1) c.next_word.ensures in
    record {
      node = ap (λ n. n + 1) c.loop-end.invariant.node;
      words =
          words_more c.args.words c.loop-end.words c.next_word.new.self c.loop-end.end-index
          c.loop-end.invariant.words next;
      text =
          again_more c.args.ends.now c.args.words c.loop-end.words c.loop-end.end-index c.loop-end.node
          c.args.out.now.items c.loop-end.out.items c.put_pull.new.out.items c.put_turn.new.out.items
          c.put_plug.new.out.items c.loop-end.invariant.words c.loop-end.invariant.node
          c.loop-end.invariant.text c.in_ok-put_pull.ensures
          (rw drawn at c.in_ok-put_turn.ensures) c.in_ok-put_plug.ensures;
    }
