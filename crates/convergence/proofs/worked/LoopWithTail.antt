-- Three nodes in a ring and a fourth that hangs on the first: the ring stays in T0 and times out,
-- the tail asks in vain.
use Rattle.std.proofs.Common.{◌≡◌, ℕ, zero, suc, Bool, true, false, List, [], ◌∷◌, map, Option, Some, None, slice_get, refl, subst, arith}
use Rattle.std.specs.Prelude.{IsSomeAnd}
use Rattle.convergence.proofs.Common.{End, Wiring, far, Holds, HasTwo, IsCore, Phase, enter, on_signal, tick, PortNode, CableWorld, world_of_nodes, turn, turns_after, is_in_bus_reset, plain_node, at, after_plug, ResetsAreDone, LoopsAreReported}
use Rattle.port_state.specs.declared.signal.Phase.TheVariants.{TreeStart, ParentShake}
use Rattle.cable_world.specs.Outcome.{IsOutcome, loop}
use Rattle.cable_world.proofs.Lemmas.{story, each-held, said}
use Rattle.convergence.proofs.worked.AllNodes.{none-in}

abbrev ring : CableWorld
ring =
    after_plug (at 0 2) (at 3 0) (after_plug (at 2 1) (at 0 1)
    (after_plug (at 1 1) (at 2 0) (after_plug (at 0 0) (at 1 0)
    (world_of_nodes 4 (plain_node 0 ∷ plain_node 0 ∷ plain_node 0 ∷ plain_node 0 ∷ [])))))

abbrev timeouts : CableWorld → List (Phase × Bool)
timeouts w = map (λ (x : PortNode). (x.state.view.phase, x.state.view.timed_out)) w.nodes

-- after 2,304 and after 2,305 turns
times-out : story timeouts (1 ∷ []) (turns_after 2304 ring) ≡
    ((TreeStart, false) ∷ (TreeStart, false) ∷ (TreeStart, false) ∷ (ParentShake, false) ∷ []) ∷
    ((TreeStart, true) ∷ (TreeStart, true) ∷ (TreeStart, true) ∷ (ParentShake, false) ∷ []) ∷ []
unfolding turn turns_after enter tick on_signal
times-out = refl

done : ResetsAreDone (turns_after 257 ring)
unfolding turn turns_after enter tick on_signal
done = none-in is_in_bus_reset (turns_after 257 ring) refl

-- ---- the loop is reported, and is the outcome

abbrev cables : Wiring
cables =
    (Some (at 1 0) ∷ Some (at 2 1) ∷ Some (at 3 0) ∷ [])
    ∷ (Some (at 0 0) ∷ Some (at 2 0) ∷ None ∷ [])
    ∷ (Some (at 1 1) ∷ Some (at 0 1) ∷ None ∷ [])
    ∷ (Some (at 0 2) ∷ None ∷ None ∷ [])
    ∷ []

-- the tail has one cable
one-cable : (p : ℕ) (e : End) → far cables (at 3 p) ≡ Some e → p ≡ 0
one-cable zero e h = refl
one-cable (suc zero) e h = absurd cc
one-cable (suc (suc zero)) e h = absurd cc
one-cable (suc (suc (suc p))) e h = absurd cc

-- so whatever has two is in the ring
in-ring : (part k : ℕ) → HasTwo cables part k → Holds 7 k
in-ring part zero two = refl
in-ring part (suc zero) two = refl
in-ring part (suc (suc zero)) two = refl
in-ring part (suc (suc (suc zero))) two = absurd (omega (arith, two.apart, one-cable two.high two.high_leads.0 two.high_leads.1))
in-ring part (suc (suc (suc (suc k)))) two = absurd (let none = two.low_leads.1 in cc)

has-two : (k : ℕ) → Holds 7 k → HasTwo cables 7 k
has-two k h =
    each-held (λ k. HasTwo cables 7 k) 7 (0 ∷ 1 ∷ 2 ∷ []) refl (
      record { low = 0; high = 1; apart = omega arith; low_leads = (at 1 0, refl, refl); high_leads = (at 2 1, refl, refl) },
      (
        record { low = 0; high = 1; apart = omega arith; low_leads = (at 0 0, refl, refl); high_leads = (at 2 0, refl, refl) },
        (record { low = 0; high = 1; apart = omega arith; low_leads = (at 1 1, refl, refl); high_leads = (at 0 1, refl, refl) }, tt),
      ),
    ) k h

within : (k : ℕ) → Holds 7 k → Holds 15 k
within k h = each-held (λ k. Holds 15 k) 7 (0 ∷ 1 ∷ 2 ∷ []) refl (refl, (refl, (refl, tt))) k h

core-is : IsCore cables 15 7
core-is k = (λ h. (7, within, has-two, h), λ p. in-ring p.0 k (p.2 k p.3))

cables-are : (turns_after 2305 ring).cabling ≡ cables
unfolding turn turns_after enter tick on_signal
cables-are = refl

-- the phase, whether it timed out, and the ID
abbrev waits : PortNode → Phase × Bool × Option ℕ
waits x = (x.state.view.phase, x.state.view.timed_out, x.state.view.id)

abbrev rows : List (Phase × Bool × Option ℕ)
rows = (TreeStart, true, None) ∷ (TreeStart, true, None) ∷ (TreeStart, true, None) ∷ (ParentShake, false, None) ∷ []

rows-are : map waits (turns_after 2305 ring).nodes ≡ rows
unfolding turn turns_after enter tick on_signal
rows-are = refl

abbrev TimedOut : Phase × Bool × Option ℕ → Type 0
TimedOut r = (r.0 ≡ TreeStart) × (r.1 ≡ true)

in-time : (k : ℕ) → Holds 7 k → IsSomeAnd (slice_get rows k) TimedOut
in-time k h = each-held (λ k. IsSomeAnd (slice_get rows k) TimedOut) 7 (0 ∷ 1 ∷ 2 ∷ []) refl ((refl, refl), ((refl, refl), ((refl, refl), tt))) k h

no-name : (k : ℕ) → Holds 15 k → IsSomeAnd (slice_get rows k) (λ r. r.2 ≡ None)
no-name k h = each-held (λ k. IsSomeAnd (slice_get rows k) (λ r. r.2 ≡ None)) 15 (0 ∷ 1 ∷ 2 ∷ 3 ∷ []) refl (refl, (refl, (refl, (refl, tt)))) k h

reported : LoopsAreReported (turns_after 2305 ring)
reported set core k is h =
    let p = (subst (λ (c : Wiring). IsCore c set core) cables-are is k).0 h in
    said (turns_after 2305 ring) waits rows k TimedOut rows-are (in-time k (in-ring p.0 k (p.2 k p.3)))

ends-as : IsOutcome (turns_after 2305 ring) 15 (loop 7)
ends-as = record {
  is_core = rw cables-are core-is;
  node = 0;
  in_core = refl;
  timed_out = λ k h. said (turns_after 2305 ring) waits rows k TimedOut rows-are (in-time k h);
  unnamed = λ k h. said (turns_after 2305 ring) waits rows k (λ r. r.2 ≡ None) rows-are (no-name k h);
}
