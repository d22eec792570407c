-- Quiet turns, with holds placed between them: how they are counted, and what they keep.
use Rattle.std.proofs.Common.{◌≡◌, ◌≢◌, ℕ, zero, suc, ◌+◌, List, [], ◌∷◌, Option, Some, None, is_some, refl, sym, ◌∙◌, ap, subst, arith, add-one, if◌then◌else◌}
use Rattle.cabling.specs.declared.cable.End.{End}
use Rattle.cabling.specs.declared.cable.CableFault.{CableFault}
use Rattle.port_state.specs.declared.timing.Timing.{Timing}
use Rattle.port_state.specs.Clock.{Clock}
use Rattle.cable_world.specs.World.{CableWorld, wire_of}
use Rattle.cable_world.specs.Turn.{turn, turns_after}
use Rattle.cable_world.specs.Act.{hold, hold_fault}
use Rattle.cable_world.specs.Quiet.{PlacedHold, HoldSchedule, no_holds, with_hold, with_holds, quiet_after, KeptByQuietTurns, HoldsAreCalls, PlainTurnsAreQuiet, OneQuietTurnMore, NoQuietTurnIsHolds, QuietTurnsAdd}
use Rattle.cable_world.specs.Lawful.{IsLawful}
use Rattle.cable_world.specs.Run.{ComesOfPowerOn, IsReached}
use Rattle.cable_world.specs.StaysLawful.{KeptByHolds}
use Rattle.cable_world.proofs.acts.Happenings.{hold-signals}
use Rattle.cable_world.proofs.turns.ByNumber.{cabling-after, no-turns, one-more}
use Rattle.cable_world.proofs.StaysLawful.{turn-lawful, hold-lawful}
use Rattle.cable_world.proofs.tables.TimesKept.{Timed, GoesOn, turn-timed}
use Rattle.cable_world.proofs.StaysReached.{turn-comes, hold-comes, turn-reached, hold-reached}

-- ---- holds

-- a hold is placed where there is a cable, and else nothing happens
one-hold :
    (P : CableWorld → Type 0) (h : PlacedHold) (w : CableWorld) → P w →
    (hold_fault h.end w ≡ None → P (hold h.end h.turns w)) → P (with_hold h w)
one-hold P h w p held = go (hold_fault h.end w) held
  where
    go :
        (o : Option CableFault) → (o ≡ None → P (hold h.end h.turns w)) →
        P (record w { wires = if is_some o then w.wires else (hold h.end h.turns w).wires })
    go None q = q refl
    go (Some f) q = p

pub holds-are-calls : HoldsAreCalls
holds-are-calls h holds w = (refl, refl, placed, refused)
  where
    placed : hold_fault h.end w ≡ None → with_hold h w ≡ hold h.end h.turns w
    placed none = ap (λ (o : Option CableFault). record w { wires = if is_some o then w.wires else (hold h.end h.turns w).wires }) none

    refused : hold_fault h.end w ≢ None → with_hold h w ≡ w
    refused ne = one-hold (λ v. v ≡ w) h w refl (λ none. absurd (ne none))

-- what a hold keeps, holds keep
pub holds-keep :
    (P : CableWorld → Type 0) → KeptByHolds P → (holds : List PlacedHold) (w : CableWorld) →
    P w → P (with_holds holds w)
holds-keep P k [] w p = p
holds-keep P k (h ∷ holds) w p = holds-keep P k holds (with_hold h w) (one-hold P h w p (λ none. k h.end h.turns w none p))

pub holds-lawful :
    (holds : List PlacedHold) (w : CableWorld) → IsLawful w → IsLawful (with_holds holds w)
holds-lawful = holds-keep IsLawful hold-lawful

-- what a lawful world keeps
abbrev LawfulAnd : (CableWorld → Type 0) → CableWorld → Type 0
LawfulAnd P w = IsLawful w × P w

pub holds-kept :
    (P : CableWorld → Type 0) →
    ((end : End) (turns : ℕ) (w : CableWorld) → hold_fault end w ≡ None → IsLawful w → P w → P (hold end turns w))
    → (holds : List PlacedHold) (w : CableWorld) → IsLawful w → P w → P (with_holds holds w)
holds-kept P k holds w l p = (holds-keep (LawfulAnd P) both holds w (l, p)).1
  where
    both : KeptByHolds (LawfulAnd P)
    both end n v none b = (hold-lawful end n v none b.0, k end n v none b.0 b.1)

-- what is under way stays
pub holds-signals :
    (holds : List PlacedHold) (w : CableWorld) (a : End) → IsLawful w →
    (wire_of (with_holds holds w) a).signals ≡ (wire_of w a).signals
holds-signals holds w a l =
    holds-kept (λ v. (wire_of v a).signals ≡ (wire_of w a).signals)
    (λ end n v none m e. hold-signals end n v none m.well_formed a ∙ e) holds w l refl

-- ---- quiet turns, one after the other

pub no-quiet : NoQuietTurnIsHolds
unfolding quiet_after
no-quiet hs w = refl

quiet-last :
    (hs : HoldSchedule) (k : ℕ) (w : CableWorld) →
    quiet_after hs (suc k) w ≡ with_holds (hs (suc k)) (turn (quiet_after hs k w))
unfolding quiet_after
quiet-last hs k w = refl

pub one-quiet : OneQuietTurnMore
one-quiet hs k w = rw add-one (quiet-last hs k w)

pub quiet-then : QuietTurnsAdd
unfolding quiet_after
quiet-then hs j zero w = let z : j + 0 ≡ j = omega arith in ap (λ n. quiet_after hs n w) z
quiet-then hs j (suc k) w =
    let z : j + suc k ≡ suc (j + k) = omega arith in
    ap (λ n. quiet_after hs n w) z ∙ ap (λ (v : CableWorld). with_holds (hs (suc (j + k))) (turn v)) (quiet-then hs j k w)

-- the first turn, and those that follow
pub quiet-first :
    (hs : HoldSchedule) (k : ℕ) (w : CableWorld) →
    quiet_after hs (suc k) w ≡ quiet_after (λ i. hs (suc i)) k (turn (with_holds (hs 0) w))
unfolding quiet_after
quiet-first hs zero w = refl
quiet-first hs (suc k) w = ap (λ (v : CableWorld). with_holds (hs (suc (suc k))) (turn v)) (quiet-first hs k w)

pub plain-quiet : PlainTurnsAreQuiet
unfolding quiet_after
plain-quiet zero w = sym (no-turns w)
plain-quiet (suc k) w = ap turn (plain-quiet k w) ∙ sym (one-more k w) ∙ ap (λ n. turns_after n w) (add-one k)

-- ---- what quiet turns keep

pub quiet-lawful : KeptByQuietTurns IsLawful
unfolding quiet_after
quiet-lawful hs zero w l = holds-lawful (hs 0) w l
quiet-lawful hs (suc k) w l = holds-lawful (hs (suc k)) (turn (quiet_after hs k w)) (turn-lawful (quiet_after hs k w) (quiet-lawful hs k w l))

pub quiet-comes : KeptByQuietTurns ComesOfPowerOn
unfolding quiet_after
quiet-comes hs zero w r = holds-keep ComesOfPowerOn hold-comes (hs 0) w r
quiet-comes hs (suc k) w r = holds-keep ComesOfPowerOn hold-comes (hs (suc k)) (turn (quiet_after hs k w)) (turn-comes (quiet_after hs k w) (quiet-comes hs k w r))

pub quiet-reached : KeptByQuietTurns IsReached
unfolding quiet_after
quiet-reached hs zero w r = holds-keep IsReached hold-reached (hs 0) w r
quiet-reached hs (suc k) w r = holds-keep IsReached hold-reached (hs (suc k)) (turn (quiet_after hs k w)) (turn-reached (quiet_after hs k w) (quiet-reached hs k w r))

-- no node's times change
pub quiet-timed :
    (P : ℕ → Timing → Clock → Type 0) (hs : HoldSchedule) (k : ℕ) (w : CableWorld) → GoesOn P → IsLawful w →
    Timed P w.nodes → Timed P (quiet_after hs k w).nodes
unfolding quiet_after
quiet-timed P hs zero w on l h = h
quiet-timed P hs (suc k) w on l h = turn-timed P (quiet_after hs k w) on (quiet-lawful hs k w l).well_formed (quiet-timed P hs k w on l h)

pub after-cabling :
    (hs : HoldSchedule) (k : ℕ) (w : CableWorld) → (quiet_after hs k w).cabling ≡ w.cabling
unfolding quiet_after
after-cabling hs zero w = refl
after-cabling hs (suc k) w = cabling-after (quiet_after hs k w) ∙ after-cabling hs k w

-- ---- what is said of quiet turns, said of turns alone

pub plainly :
    (P : CableWorld → Type 0) (k : ℕ) (w : CableWorld) → P (quiet_after no_holds k w) →
    P (turns_after k w)
plainly P k w = subst P (plain-quiet k w)

pub turns-cabling : (k : ℕ) (w : CableWorld) → (turns_after k w).cabling ≡ w.cabling
turns-cabling k w = plainly (λ v. v.cabling ≡ w.cabling) k w (after-cabling no_holds k w)
