use Rattle.script_lines.proofs.CoinBits.{one_more, no_more}
use Rattle.script_lines.proofs.coins.coin_word.Goals as goal
use Rattle.script_lines.proofs.coins.coin_word.Goals.{then-coin-eq49, else-coin-eq49}

pub loop-i-preserved : goal.loop-i-preserved
loop-i-preserved c =
    elim c.if-coin-eq49.branch [
      | then-coin-eq49 w ↦
          let next = one_more c.args.coins.now c.loop-i.i c.loop-i.word _ c.loop-i-test.true
          c.loop-i.invariant.small c.loop-i.invariant.value w.if-coin-eq49.true in
          record { small = rw (w.word-is, w.weight-word.ensures) next.0; value = rw (w.word-is, w.weight-word.ensures) next.1 }
      | else-coin-eq49 w ↦
          let next = no_more c.args.coins.now c.loop-i.i c.loop-i.word _ c.loop-i-test.true
          c.loop-i.invariant.small c.loop-i.invariant.value w.if-coin-eq49.false c.requires.coins in
          record { small = rw w.word-is next.0; value = rw w.word-is next.1 }
    ]
