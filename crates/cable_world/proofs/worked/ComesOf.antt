-- What comes of a world by a plug, a pull, a reset or a hold that isn't refused.
use Rattle.std.proofs.Common.{◌≡◌, ℕ, None, refl}
use Rattle.cabling.specs.declared.cable.End.{End}
use Rattle.cable_world.specs.declared.act.Act.TheVariants.{Plug, Pull, Reset}
use Rattle.cable_world.specs.World.{CableWorld, NodeNumber}
use Rattle.cable_world.specs.Act.{note_changes, reset, act_fault, hold, hold_fault}
use Rattle.cable_world.specs.Run.{ComesOf, acted, held}
use Rattle.cable_world.proofs.worked.Summary.{after_plug, after_pull}

-- a node resets the bus
abbrev pub after_reset : NodeNumber → CableWorld → CableWorld
after_reset k w = note_changes w (reset k w)

pub comes-plugged :
    {S : CableWorld → Type 0} → (w : CableWorld) (a b : End) → act_fault (Plug a b) w ≡ None →
    ComesOf S w → ComesOf S (after_plug a b w)
comes-plugged w a b free = acted (Plug a b) w (after_plug a b w) (tt, free, refl)

pub comes-pulled :
    {S : CableWorld → Type 0} → (w : CableWorld) (a : End) → act_fault (Pull a) w ≡ None →
    ComesOf S w → ComesOf S (after_pull a w)
comes-pulled w a there = acted (Pull a) w (after_pull a w) (tt, there, refl)

pub comes-reset :
    {S : CableWorld → Type 0} → (w : CableWorld) (k : NodeNumber) → act_fault (Reset k) w ≡ None →
    ComesOf S w → ComesOf S (after_reset k w)
comes-reset w k there = acted (Reset k) w (after_reset k w) (tt, there, refl)

pub comes-held :
    {S : CableWorld → Type 0} → (w : CableWorld) (a : End) (n : ℕ) → hold_fault a w ≡ None →
    ComesOf S w → ComesOf S (hold a n w)
comes-held w a n there = held a n w there
