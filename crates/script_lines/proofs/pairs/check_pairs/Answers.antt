use Rattle.std.proofs.Common.{◌≡◌, ◌≤◌, ◌+◌, ◌∙◌, ℕ, ◌-◌, length, drop, get_or, take, sym}
use Rattle.script_lines.proofs.GivenValues.{next_pair, to_the_end, two_behind}
use Rattle.script_lines.proofs.pairs.check_pairs.Goals as goal

pub loop-done-preserved : goal.loop-done-preserved
loop-done-preserved c =
    let inside : c.loop-done.done + 2 ≤ length c.args.pairs.now =
    two_behind c.args.pairs.now c.loop-done.done c.loop-done.invariant.within
    c.in-len2-up.len_at_least in
    let whole = to_the_end c.args.pairs.now c.loop-done.done in
    let end : ℕ = length c.args.pairs.now - c.loop-done.done in
    let first : get_or (take end (drop c.loop-done.done c.args.pairs.now)) 0 c.key-item.result ≡ c.key-item.result =
    sym c.key-item.is in
    let second : get_or (take end (drop c.loop-done.done c.args.pairs.now)) 1 c.value-item.result ≡ c.value-item.result =
    sym c.value-item.is in
    let key : get_or (drop c.loop-done.done c.args.pairs.now) 0 c.key-item.result ≡ c.key-item.result =
    rw whole at first in
    let value : get_or (drop c.loop-done.done c.args.pairs.now) 1 c.value-item.result ≡ c.value-item.result =
    rw whole at second in
    record {
      within = inside;
      fault =
          next_pair c.args.times c.loop-done.done c.args.pairs.now c.key-item.result c.value-item.result
          inside key value (sym c.in_ok-check_pair.ensures) ∙ c.loop-done.invariant.fault;
    }
