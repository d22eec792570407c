-- The run of `HeldContention` once more, as quiet turns with holds placed between them: what the
-- laws say of quiet turns they say of it. A hold on a port without cable is refused, and changes
-- nothing.
use Rattle.std.proofs.Common.{◌≡◌, ℕ, List, [], ◌∷◌, refl, sym, subst}
use Rattle.std.specs.Prelude.{◌==◌, if◌then◌else◌}
use Rattle.convergence.proofs.Common.{enter, on_signal, tick, turn, turns_after, PlacedHold, HoldSchedule, quiet_after, at, AreUnequal, WinsOver}
use Rattle.convergence.proofs.worked.HeldContention.{start, met, again, over, again-unequal, won}

abbrev held : ℕ → List PlacedHold
held turns = record { end = at 0 0; turns = turns } ∷ record { end = at 0 2; turns = 9 } ∷ []

-- after 256, 258, 260 and 272 turns the wire is held for one turn, and after 286 turns for three
abbrev schedule : HoldSchedule
schedule k =
    if k == 256 then held 1 else if k == 258 then held 1 else if k == 260 then held 1
    else if k == 272 then held 1 else if k == 286 then held 3 else []

met-quiet : quiet_after schedule 261 start ≡ met
unfolding turn turns_after quiet_after enter tick on_signal
met-quiet = refl

again-quiet : quiet_after schedule 274 start ≡ again
unfolding turn turns_after quiet_after enter tick on_signal
again-quiet = refl

over-quiet : quiet_after schedule 306 start ≡ over
unfolding turn turns_after quiet_after enter tick on_signal
over-quiet = refl

-- the last coins differ, and the end with the long wait wins
unequal : AreUnequal (quiet_after schedule 274 start) 1 0
unequal = subst (λ w. AreUnequal w 1 0) (sym again-quiet) again-unequal

wins : WinsOver (quiet_after schedule 306 start) 1 0
wins = subst (λ w. WinsOver w 1 0) (sym over-quiet) won
