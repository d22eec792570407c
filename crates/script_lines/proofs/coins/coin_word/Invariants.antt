use Rattle.std.proofs.Common.{◌≡◌, ◌+◌, ◌*◌, ◌^◌, ◌<◌, drop}
use Rattle.script_lines.specs.Coins.{coin_word}
use Rattle.script_lines.proofs.coins.coin_word.Given as goal

abbrev pub invariant-loop-i : goal.invariant-loop-i
invariant-loop-i l = record {
  small : l.word < 2 ^ l.i;
  value : l.word + 2 ^ l.i * coin_word (drop l.i l.coins) ≡ coin_word l.coins;
}
