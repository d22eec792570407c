use Rattle.std.proofs.Common.{◌-◌, ◌≤◌, length, take-add, subst, ◌∙◌, arith, length-drop}
use Rattle.std.proofs.lemmas.List.{take_rest}
use Rattle.io_edges.proofs.Progress.{Appends-then}
use Rattle.io_edges.proofs.whole.write_whole.Goals as goal

pub loop-at-preserved : goal.loop-at-preserved
loop-at-preserved g c = record {
  wrote = rw take-add (Appends-then _ _ _ _ _ c.loop-at.invariant.told c.loop-at.invariant.wrote
      (rw take_rest at c.in_ok-at.ensures.bytes));
  told = c.in_ok-at.ensures.told ∙ c.loop-at.invariant.told;
  inside = omega (arith, c.in_ok-at.ensures.bound, length-drop c.loop-at.at c.args.bytes.now);
  later = omega (arith, c.in_ok-at.ensures.later, c.loop-at.invariant.later);
  sure = λ n fits promised.
      let rest = c.loop-at.invariant.sure n fits promised in
      let less : length c.args.bytes.now - c.loop-at.at ≤ n - c.loop-at.at = omega (arith, fits) in
      let taken = (rw (take_rest, length-drop) at c.in_ok-at.ensures.sure) (n - c.loop-at.at) less rest.0 in
      (subst (g.K.Sink.surely_takes c.write.new.self) (omega arith) taken.0, taken.1 ∙ rest.1);
}
