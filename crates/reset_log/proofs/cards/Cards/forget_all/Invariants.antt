use Rattle.std.proofs.Common.{◌≡◌, length}
use Rattle.std.specs.Prelude.{map}
use Rattle.reset_log.specs.Noted.{forgotten}
use Rattle.reset_log.specs.codings.Kept.{AreKept}
use Rattle.reset_log.proofs.cards.Cards.forget_all.Given as goal

-- the cards are kept, and are the same as at first but for trees
abbrev pub invariant-loop-at : goal.invariant-loop-at
invariant-loop-at l =
    AreKept l.self-inside.places l.self-inside.drawn l.self-inside.known.items
    × (map forgotten l.self-inside.known.items ≡ map forgotten l.fn.self)

abbrev pub decreases-loop-at : goal.decreases-loop-at
decreases-loop-at l = length l.self-inside.drawn.keys
