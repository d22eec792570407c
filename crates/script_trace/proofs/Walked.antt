-- Lists that are gone through by number.
use Rattle.std.proofs.Common.{◌≡◌, ◌++◌, ◌+◌, ◌<◌, ◌≤◌, ℕ, Bool, false, List, [], ◌∷◌, length, drop, map, get_or, Some, zero, suc, refl, sym, ◌∙◌, ap, append_assoc, add-one, arith}
use Rattle.std.specs.Prelude.{codes, slice_get, slice_index_or}
use Rattle.std.proofs.Math.Seq.{drop-cons}
use Rattle.std.specs.Option.{option_map}
use Rattle.std.proofs.lemmas.List.{append-nil}
use Rattle.std.proofs.lemmas.Option.{slice_get-map, slice_get_within, get_or_from_slice_get}
use Rattle.port_state.specs.declared.ports.PortView.{PortView}
use Rattle.port_state.specs.declared.view.View.{View}
use Rattle.port_state.specs.Clock.{misses}
use Rattle.port_state.specs.Machine.{PortNode}
use Rattle.cable_world.proofs.Lemmas.{some-same}
use Rattle.cable_world.specs.World.{CableWorld, wire_of}
use Rattle.script_text.specs.ReportText.{Names, numbered, spaced}
use Rattle.script_trace.specs.Event.{Seen, head, sent_lines, all_sent_lines}
use Rattle.script_trace.specs.Step.{counts_from, seen_before_act, seen_before_turn, all_lines}
use Rattle.script_trace.proofs.NodeShown.{before-act}

-- ---- what is left of a list

pub some-left :
    {A : Type 0} → (xs : List A) (k : ℕ) → k < length xs → (x : A) × (drop k xs ≡ x ∷ drop (k + 1) xs)
some-left [] k h = absurd (omega (arith, h))
some-left (x ∷ xs) k h = (
  get_or (x ∷ xs) k x,
  drop-cons (x ∷ xs) k x h ∙ ap (λ (i : ℕ). get_or (x ∷ xs) k x ∷ drop i (x ∷ xs)) (sym (add-one k)),
)

pub left-from :
    {A : Type 0} → (xs : List A) (k : ℕ) (x : A) → slice_get xs k ≡ Some x →
    drop k xs ≡ x ∷ drop (k + 1) xs
left-from xs k x at =
    drop-cons xs k x (slice_get_within xs k x at)
    ∙ ap (λ y. y ∷ drop (suc k) xs) (get_or_from_slice_get xs k x x at)
    ∙ ap (λ (i : ℕ). x ∷ drop i xs) (sym (add-one k))

-- one part more, and the rest
pub one-more :
    {A : Type 0} → (before after part rest whole all : List A) → after ≡ before ++ part →
    whole ≡ part ++ rest → before ++ whole ≡ all → after ++ rest ≡ all
one-more before after part rest whole all new is so =
    ap (λ l. l ++ rest) new ∙ append_assoc before part rest ∙ sym (ap (λ l. before ++ l) is) ∙ so

-- nothing is left where either list is at its end
pub past-end : {A : Type 0} → (xs : List A) (k : ℕ) → length xs ≤ k → drop k xs ≡ []
past-end [] zero h = refl
past-end [] (suc k) h = refl
past-end (x ∷ xs) zero h = absurd (omega (arith, h))
past-end (x ∷ xs) (suc k) h = past-end xs k (omega (arith, h))

pub all-told : (out all rest : List ℕ) → rest ≡ [] → out ++ rest ≡ all → out ≡ all
all-told out all rest none so = sym (append-nil out) ∙ sym (ap (λ (l : List ℕ). out ++ l) none) ∙ so

-- ---- the front of a line

pub front-of :
    (names : Names) (turns node : ℕ) (turn front : List ℕ) → turn ≡ numbered (codes "turn ") turns →
    front ≡ turn ++ spaced names node → front ≡ head names turns node
unfolding head
front-of names turns node turn front is front-is =
    front-is ∙ ap (λ (l : List ℕ). l ++ spaced names node) is

-- ---- wires

pub next-count :
    (w : CableWorld) (node k n : ℕ) (ports : List PortView) (before after all : List ℕ) →
    k < length ports → after ≡ before ++ n ∷ [] →
    n ≡ length (wire_of w (record { node = node; port = k })).signals →
    before ++ counts_from w node k (drop k ports) ≡ all →
    after ++ counts_from w node (k + 1) (drop (k + 1) ports) ≡ all
next-count w node k n ports before after all h new is so =
    let rest = counts_from w node (k + 1) (drop (k + 1) ports) in
    one-more before after (n ∷ []) rest (counts_from w node k (drop k ports)) all new
    (ap (counts_from w node k) (some-left ports k h).1 ∙ ap (λ (m : ℕ). m ∷ rest) (sym is)) so

pub next-sent :
    (front : List ℕ) (w : CableWorld) (node k n : ℕ) (there : List ℕ) (ports : List PortView)
    (before after all : List ℕ) → k < length ports → n ≡ slice_index_or there k 0 →
    after ≡ before ++ sent_lines front k (drop n (wire_of w (record { node = node; port = k })).signals) →
    before ++ all_sent_lines front w node there k (drop k ports) ≡ all →
    after ++ all_sent_lines front w node there (k + 1) (drop (k + 1) ports) ≡ all
next-sent front w node k n there ports before after all h count is so =
    let under = (wire_of w (record { node = node; port = k })).signals in
    let rest = all_sent_lines front w node there (k + 1) (drop (k + 1) ports) in
    one-more before after (sent_lines front k (drop n under)) rest
    (all_sent_lines front w node there k (drop k ports)) all is
    (ap (all_sent_lines front w node there k) (some-left ports k h).1
    ∙ ap (λ (i : ℕ). sent_lines front k (drop i under) ++ rest) (sym count))
    so

-- ---- nodes

seen-of : View → List ℕ → Bool → Seen
seen-of v there missed = record { view = v; there = there; missed = missed }

-- what a node showed before a turn, or before an act
pub turn-seen :
    (nodes : List PortNode) (k : ℕ) (x : PortNode) (v : View) (none : List ℕ) (missed : Bool) → slice_get nodes k ≡ Some x →
    v ≡ x.state.view → none ≡ [] → missed ≡ misses x.clock →
    slice_get (map seen_before_turn nodes) k ≡ Some (record { view = v; there = none; missed = missed })
unfolding seen-of
turn-seen nodes k x v none missed at is empty so =
    slice_get-map seen_before_turn nodes k ∙ ap (option_map seen_before_turn) at
    ∙ ap (λ (u : View). Some (seen-of u [] (misses x.clock))) (sym is)
    ∙ ap (λ (l : List ℕ). Some (seen-of v l (misses x.clock))) (sym empty)
    ∙ ap (λ (b : Bool). Some (seen-of v none b)) (sym so)

-- whichever call told of the node
pub missed-of :
    (nodes : List PortNode) (k : ℕ) (x y : PortNode) (missed : Bool) → slice_get nodes k ≡ Some x → slice_get nodes k ≡ Some y →
    missed ≡ misses y.clock → missed ≡ misses x.clock
missed-of nodes k x y missed at also is =
    is ∙ ap (λ (z : PortNode). misses z.clock) (some-same y x (sym also ∙ at))

pub act-seen :
    (w : CableWorld) (nodes : List PortNode) (k : ℕ) (x : PortNode) (v : View) (ports : List PortView) (there : List ℕ) →
    slice_get nodes k ≡ Some x → v ≡ x.state.view → ports ≡ v.ports → there ≡ counts_from w k 0 ports →
    slice_get (seen_before_act w 0 nodes) k ≡ Some (record { view = v; there = there; missed = false })
unfolding seen-of
act-seen w nodes k x v ports there at is its counted =
    let same : there ≡ counts_from w k 0 x.state.view.ports =
    counted ∙ ap (counts_from w k 0) (its ∙ ap (λ (u : View). u.ports) is) in
    before-act w 0 k k nodes x (omega arith) at
    ∙ ap (λ (l : List ℕ). Some (seen-of x.state.view l false)) (sym same)
    ∙ ap (λ (u : View). Some (seen-of u there false)) (sym is)

no-node : (names : Names) (w : CableWorld) (k : ℕ) (seen : List Seen) →
    all_lines names w k seen [] ≡ []
no-node names w k [] = refl
no-node names w k (s ∷ seen) = refl

-- nothing is left behind the last node
pub none-left :
    (names : Names) (w : CableWorld) (k : ℕ) (seen : List Seen) (nodes : List PortNode) →
    length nodes ≤ k → all_lines names w k (drop k seen) (drop k nodes) ≡ []
none-left names w k seen nodes h =
    ap (all_lines names w k (drop k seen)) (past-end nodes k h) ∙ no-node names w k (drop k seen)
