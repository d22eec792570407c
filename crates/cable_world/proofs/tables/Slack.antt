-- The slack of a world's clocks: where all are even it is 0, and in turns and acts of a world whose clocks are
-- regular it stays as it is. So who can be forced stays so.
use Rattle.std.proofs.Common.{◌≡◌, ℕ, zero, suc, Bool, true, List, [], ◌∷◌, Some, slice_get, length, refl, sym, ◌∙◌, ap, subst, arith, if◌then◌else◌}
use Rattle.std.proofs.lemmas.Option.{slice_get-get_or}
use Rattle.port_state.specs.Clock.{Clock, is_even, clock_after, IsRegular}
use Rattle.port_state.specs.Machine.{PortNode}
use Rattle.port_state.proofs.Lemmas.{regular-after, even-after}
use Rattle.cable_world.specs.declared.act.Act.{Act}
use Rattle.cable_world.specs.Times.{CanBeForced}
use Rattle.cable_world.specs.World.{CableWorld, AllCanBeForced, AllRegular, slack_of, slack, seen_turns}
use Rattle.cable_world.specs.Turn.{turn}
use Rattle.cable_world.specs.Act.{ActLeads}
use Rattle.cable_world.specs.Lawful.{IsWellFormed}
use Rattle.cable_world.proofs.Options.{some-same}
use Rattle.cable_world.proofs.turns.ByNumber.{nodes-after, delay-after, longest-after}
use Rattle.cable_world.proofs.tables.CountsInActs.{act-keeps}
use Rattle.cable_world.proofs.tables.TimesKept.{turn-timed, act-timed}

-- ---- of lists of nodes

pub even-slack :
    (nodes : List PortNode) → ((k : ℕ) (x : PortNode) → slice_get nodes k ≡ Some x → is_even x.clock ≡ true) →
    slack_of nodes ≡ 0
even-slack [] h = refl
even-slack (n ∷ ns) h = ap (λ b. if b then slack_of ns else 1) (h 0 n refl) ∙ even-slack ns (λ k x at. h (suc k) x at)

-- nodes of which each is even where the one of its number is
abbrev AreAlike : List PortNode → List PortNode → Type 0
AreAlike xs ys =
    (k : ℕ) (x y : PortNode) → slice_get xs k ≡ Some x → slice_get ys k ≡ Some y → is_even y.clock ≡ is_even x.clock

same-slack : (xs ys : List PortNode) → length ys ≡ length xs → AreAlike xs ys → slack_of ys ≡ slack_of xs
same-slack [] [] long h = refl
same-slack [] (y ∷ ys) long h = absurd (omega (arith, long))
same-slack (x ∷ xs) [] long h = absurd (omega (arith, long))
same-slack (x ∷ xs) (y ∷ ys) long h =
    ap (λ b. if b then slack_of ys else 1) (h 0 x y refl refl)
    ∙ ap (λ n. if is_even x.clock then n else 1) (same-slack xs ys (omega (arith, long)) (λ k a b at_a at_b. h (suc k) a b at_a at_b))

-- ---- of worlds

-- node number k has a regular clock, and it is even if that of the node of this number in the list is
abbrev Like : List PortNode → ℕ → Clock → Type 0
Like nodes k c = IsRegular c × ((x : PortNode) → slice_get nodes k ≡ Some x → is_even c ≡ is_even x.clock)

pub turn-regular : (w : CableWorld) → IsWellFormed w → AllRegular w → AllRegular (turn w)
turn-regular w f h = turn-timed (λ k t c. IsRegular c) w (λ k t c r. regular-after c r) f h

pub act-regular : (a : Act) (w v : CableWorld) → ActLeads a w v → AllRegular w → AllRegular v
act-regular a w v led h = act-timed (λ k t c. IsRegular c) a w v led h

pub turn-slack : (w : CableWorld) → IsWellFormed w → AllRegular w → slack (turn w) ≡ slack w
turn-slack w f h =
    same-slack w.nodes (turn w).nodes (nodes-after w f.count) (λ k x y at_x at_y. (likes k y at_y).1 x at_x)
  where
    likes : (k : ℕ) (y : PortNode) → slice_get (turn w).nodes k ≡ Some y → Like w.nodes k y.clock
    likes =
        turn-timed (λ k t c. Like w.nodes k c) w
        (λ k t c l. (regular-after c l.0, λ x at. even-after c l.0 ∙ l.1 x at)) f
        (λ k x at. (h k x at, λ y there. ap (λ (z : PortNode). is_even z.clock) (some-same x y (sym at ∙ there))))

pub act-slack : (a : Act) (w v : CableWorld) → ActLeads a w v → slack v ≡ slack w
act-slack a w v led =
    same-slack w.nodes v.nodes (act-keeps a w v led).nodes (λ k x y at_x at_y. likes k y at_y x at_x)
  where
    likes :
        (k : ℕ) (y : PortNode) → slice_get v.nodes k ≡ Some y → (x : PortNode) → slice_get w.nodes k ≡ Some x →
        is_even y.clock ≡ is_even x.clock
    likes =
        act-timed (λ k t c. (x : PortNode) → slice_get w.nodes k ≡ Some x → is_even c ≡ is_even x.clock) a w v led
        (λ k x at y there. ap (λ (z : PortNode). is_even z.clock) (some-same x y (sym at ∙ there)))

-- ---- who can be forced

pub turn-forced :
    (w : CableWorld) → IsWellFormed w → AllRegular w → AllCanBeForced w → AllCanBeForced (turn w)
turn-forced w f r h k y e =
    rw (delay-after w, longest-after w, turn-slack w f r)
    (turn-timed (λ j t c. CanBeForced (seen_turns w) w.longest t) w (λ j t c p. p) f h k y e)

pub act-forced : (a : Act) (w v : CableWorld) → ActLeads a w v → AllCanBeForced w → AllCanBeForced v
act-forced a w v e h k y at =
    let keeps = act-keeps a w v e in
    rw (keeps.delay, keeps.longest, act-slack a w v e)
    (act-timed (λ j t c. CanBeForced (seen_turns w) w.longest t) a w v e h k y at)
