-- From one look at all nodes, or at all wires, to what is so of each of them.
use Rattle.std.proofs.Common.{◌≡◌, ℕ, zero, suc, Bool, true, false, not, List, [], ◌∷◌, Some, inl, slice_get, subst}
use Rattle.std.specs.Prelude.{slice_index_or}
use Rattle.std.specs.List.{list_all}
use Rattle.std.proofs.lemmas.Bool.{and_parts, not-true}
use Rattle.convergence.proofs.Common.{Phase, hears_packets, PortNode, CableWorld, is_before_tree, signals_of, has_reset, some-same, ResetsAreOver, NoneIn, TreesAreTaken, AreIdentifying, TreesAreDecided}
use Rattle.cable_world.specs.Wire.{Wire, empty_wire}
use Rattle.convergence.specs.Milestones.{NoResetIsUnderWay}

-- ---- nodes

abbrev pub all_pass : (Phase → Bool) → CableWorld → Bool
all_pass test w = list_all (λ (x : PortNode). test x.state.view.phase) w.nodes

each-passes :
    (test : Phase → Bool) (xs : List PortNode) →
    list_all (λ (x : PortNode). test x.state.view.phase) xs ≡ true →
    (k : ℕ) (x : PortNode) → slice_get xs k ≡ Some x → test x.state.view.phase ≡ true
each-passes test [] h k x at = absurd cc
each-passes test (y ∷ ys) h zero x at =
    subst (λ (z : PortNode). test z.state.view.phase ≡ true) (some-same y x at) (and_parts (test y.state.view.phase) _ h).0
each-passes test (y ∷ ys) h (suc k) x at = each-passes test ys (and_parts (test y.state.view.phase) _ h).1 k x at

pub none-in : (test : Phase → Bool) (w : CableWorld) → all_pass (λ p. not (test p)) w ≡ true →
    NoneIn test w
none-in test w h k x at = not-true (test x.state.view.phase) (each-passes (λ p. not (test p)) w.nodes h k x at)

pub are-identifying : (w : CableWorld) (set : ℕ) → all_pass hears_packets w ≡ true →
    AreIdentifying w set
are-identifying w set h k x holds at = each-passes hears_packets w.nodes h k x at

pub trees-taken : (w : CableWorld) → all_pass (λ p. not (is_before_tree p)) w ≡ true →
    TreesAreTaken w
trees-taken w h node set core component is empty = λ k x holds at. none-in is_before_tree w h k x at

pub trees-decided : (w : CableWorld) → all_pass hears_packets w ≡ true → TreesAreDecided w
trees-decided w h node set core component is empty = inl (are-identifying w set h)

-- ---- wires

abbrev no_reset : Wire → Bool
no_reset wire = not (has_reset (signals_of wire.signals))

abbrev pub no_resets : CableWorld → Bool
no_resets w = list_all (λ (row : List Wire). list_all no_reset row) w.wires

in-row :
    (row : List Wire) → list_all no_reset row ≡ true → (p : ℕ) →
    has_reset (signals_of (slice_index_or row p empty_wire).signals) ≡ false
in-row [] h p = cc
in-row (x ∷ row) h zero = not-true _ (and_parts (no_reset x) _ h).0
in-row (x ∷ row) h (suc p) = in-row row (and_parts (no_reset x) _ h).1 p

in-rows :
    (rows : List (List Wire)) → list_all (λ (row : List Wire). list_all no_reset row) rows ≡ true →
    (k p : ℕ) →
    has_reset (signals_of (slice_index_or (slice_index_or rows k []) p empty_wire).signals) ≡ false
in-rows [] h k p = cc
in-rows (row ∷ rows) h zero p = in-row row (and_parts (list_all no_reset row) _ h).0 p
in-rows (row ∷ rows) h (suc k) p = in-rows rows (and_parts (list_all no_reset row) _ h).1 k p

pub none-under-way : (w : CableWorld) → no_resets w ≡ true → NoResetIsUnderWay w
none-under-way w h a b joined = in-rows w.wires h a.node a.port

pub resets-over : (w : CableWorld) → no_resets w ≡ true → ResetsAreOver w
resets-over w h a b y joined at under = absurd (let none = in-rows w.wires h a.node a.port in cc)
