-- A loop over all nodes that tells of those of a set.
use Rattle.std.proofs.Common.{◌≡◌, ◌++◌, ◌+◌, ◌==◌, ◌<◌, ◌≤◌, Bool, true, false, ℕ, zero, suc, List, [], ◌∷◌, Some, length, drop, slice_get, if◌then◌else◌, refl, sym, ◌∙◌, ap, arith}
use Rattle.std.specs.Int.{bit_at}
use Rattle.std.proofs.lemmas.Bool.{eq-eqb, eqb-true}
use Rattle.std.proofs.lemmas.List.{append-nil}
use Rattle.std.proofs.lemmas.Option.{slice_get_within}
use Rattle.cabling.specs.NodeSet.{Holds}
use Rattle.port_state.specs.declared.view.View.{View}
use Rattle.port_state.specs.Machine.{PortNode}
use Rattle.cable_world.specs.World.{CableWorld}
use Rattle.script_trace.specs.Event.{Seen}
use Rattle.script_trace.specs.News.{picked, ShowsNothingNew, IsEnough}
use Rattle.script_trace.proofs.Walked.{left-from, one-more, past-end, some-left}

-- one of the list that is in the set, or isn't
pub picked-in :
    (set k : ℕ) (xs : List Seen) (s : Seen) → slice_get xs k ≡ Some s → Holds set k →
    picked set k (drop k xs) ≡ s ∷ picked set (k + 1) (drop (k + 1) xs)
picked-in set k xs s at has =
    ap (picked set k) (left-from xs k s at)
    ∙ ap (λ (b : Bool). if b then s ∷ picked set (k + 1) (drop (k + 1) xs) else picked set (k + 1) (drop (k + 1) xs))
    (eq-eqb (bit_at set k) 1 has)

pub picked-out :
    (set k : ℕ) (xs : List Seen) → k < length xs → (Holds set k → ⊥) →
    picked set k (drop k xs) ≡ picked set (k + 1) (drop (k + 1) xs)
picked-out set k xs inside out = ap (picked set k) s.1 ∙ by (bit_at set k == 1) refl
  where
    s : (x : Seen) × (drop k xs ≡ x ∷ drop (k + 1) xs)
    s = some-left xs k inside

    by : (b : Bool) → (bit_at set k == 1) ≡ b →
        (if b then s.0 ∷ picked set (k + 1) (drop (k + 1) xs) else picked set (k + 1) (drop (k + 1) xs)) ≡ picked set (k + 1) (drop (k + 1) xs)
    by true e = absurd (out (eqb-true (bit_at set k) 1 e))
    by false e = refl

pub next-unpicked :
    (set k : ℕ) (xs before all : List Seen) → k < length xs → (Holds set k → ⊥) →
    before ++ picked set k (drop k xs) ≡ all → before ++ picked set (k + 1) (drop (k + 1) xs) ≡ all
next-unpicked set k xs before all inside out so =
    ap (λ (l : List Seen). before ++ l) (sym (picked-out set k xs inside out)) ∙ so

pub all-picked :
    (set k : ℕ) (xs before all : List Seen) → length xs ≤ k → before ++ picked set k (drop k xs) ≡ all → before ≡ all
all-picked set k xs before all past so =
    sym (append-nil before) ∙ ap (λ (l : List Seen). before ++ l) (sym (ap (picked set k) (past-end xs k past))) ∙ so

-- one more of the set
pub next-picked :
    (set k : ℕ) (xs : List Seen) (s : Seen) (before after all : List Seen) → slice_get xs k ≡ Some s → Holds set k →
    after ≡ before ++ s ∷ [] → before ++ picked set k (drop k xs) ≡ all →
    after ++ picked set (k + 1) (drop (k + 1) xs) ≡ all
next-picked set k xs s before after all at has new so =
    one-more before after (s ∷ []) (picked set (k + 1) (drop (k + 1) xs)) (picked set k (drop k xs)) all new
    (picked-in set k xs s at has) so

-- what stands at a place
pub some-there : {A : Type 0} → (xs : List A) (k : ℕ) → k < length xs → (x : A) × (slice_get xs k ≡ Some x)
some-there [] k h = absurd (omega (arith, h))
some-there (x ∷ xs) zero h = (x, refl)
some-there (x ∷ xs) (suc k) h = some-there xs k (omega (arith, h))

-- ---- the next of those that are in the set

same-first : (x s : Seen) (xs rest : List Seen) → ◌≡◌ {A = List Seen} (x ∷ xs) (s ∷ rest) → x ≡ s
same-first x s xs rest e = cc

same-rest : (x s : Seen) (xs rest : List Seen) → ◌≡◌ {A = List Seen} (x ∷ xs) (s ∷ rest) → xs ≡ rest
same-rest x s xs rest e = cc

pub next-of :
    (xs : List Seen) (at : ℕ) (s : Seen) (rest : List Seen) → drop at xs ≡ s ∷ rest →
    (slice_get xs at ≡ Some s) × (drop (at + 1) xs ≡ rest)
next-of [] zero s rest e = absurd cc
next-of [] (suc at) s rest e = absurd cc
next-of (x ∷ xs) zero s rest e =
    let one : 0 + 1 ≡ suc zero = omega arith in
    (ap Some (same-first x s xs rest e), ap (λ (i : ℕ). drop i (x ∷ xs)) one ∙ same-rest x s xs rest e)
next-of (x ∷ xs) (suc at) s rest e =
    let n = next-of xs at s rest e in
    let more : suc at + 1 ≡ suc (at + 1) = omega arith in
    (n.0, ap (λ (i : ℕ). drop i (x ∷ xs)) more ∙ n.1)

-- ---- a text of all nodes, of each its own

module _ (w : CableWorld) (one : ℕ → Seen → View → List ℕ) (lines : ℕ → List Seen → List PortNode → List ℕ)
    (step : (k : ℕ) (s : Seen) (seen : List Seen) (x : PortNode) (nodes : List PortNode) →
    lines k (s ∷ seen) (x ∷ nodes) ≡ one k s x.state.view ++ lines (k + 1) seen nodes)
  where
    next-told :
        (k : ℕ) (s : Seen) (x : PortNode) (seen : List Seen) (nodes : List PortNode) (before after all : List ℕ) →
        slice_get seen k ≡ Some s → slice_get nodes k ≡ Some x → after ≡ before ++ one k s x.state.view →
        before ++ lines k (drop k seen) (drop k nodes) ≡ all →
        after ++ lines (k + 1) (drop (k + 1) seen) (drop (k + 1) nodes) ≡ all
    next-told k s x seen nodes before after all here at new so =
        one-more before after (one k s x.state.view) (lines (k + 1) (drop (k + 1) seen) (drop (k + 1) nodes))
        (lines k (drop k seen) (drop k nodes)) all new
        (ap (λ (l : List Seen). lines k l (drop k nodes)) (left-from seen k s here)
        ∙ ap (lines k (s ∷ drop (k + 1) seen)) (left-from nodes k x at)
        ∙ step k s (drop (k + 1) seen) x (drop (k + 1) nodes))
        so

    -- so much is told before node k, and what stands at a place of `seen` is next
    abbrev pub IsTold : ℕ → ℕ → ℕ → List Seen → List Seen → List ℕ → List ℕ → Type 0
    IsTold set k next seen all out whole =
        (out ++ lines k (drop k all) (drop k w.nodes) ≡ whole) × (drop next seen ≡ picked set k (drop k all))

    shown-at : (k : ℕ) (x : PortNode) (all : List Seen) → length all ≡ length w.nodes → slice_get w.nodes k ≡ Some x →
        (s : Seen) × (slice_get all k ≡ Some s)
    shown-at k x all count at =
        some-there all k (omega (arith, count, slice_get_within w.nodes k x at))

    -- a node of the set
    pub told-in :
        (set k next : ℕ) (x : PortNode) (seen all : List Seen) (out new whole : List ℕ) → IsEnough true set seen all w →
        slice_get w.nodes k ≡ Some x → Holds set k →
        ((s : Seen) (y : PortNode) → slice_get seen next ≡ Some s → slice_get w.nodes k ≡ Some y → new ≡ out ++ one k s y.state.view) →
        IsTold set k next seen all out whole → IsTold set (k + 1) (next + 1) seen all new whole
    told-in set k next x seen all out new whole enough at has tells so =
        let s = shown-at k x all enough.count at in
        let n = next-of seen next s.0 (picked set (k + 1) (drop (k + 1) all)) (so.1 ∙ picked-in set k all s.0 s.1 has) in
        (next-told k s.0 x all w.nodes out new whole s.1 at (tells s.0 x n.0 at) so.0, n.1)

    -- another node
    pub told-out :
        (set k next : ℕ) (x : PortNode) (seen all : List Seen) (out whole : List ℕ) → IsEnough true set seen all w →
        slice_get w.nodes k ≡ Some x → (Holds set k → ⊥) →
        ((s : Seen) → ShowsNothingNew w k s x.state.view → one k s x.state.view ≡ []) →
        IsTold set k next seen all out whole → IsTold set (k + 1) next seen all out whole
    told-out set k next x seen all out whole enough at not none so =
        let s = shown-at k x all enough.count at in (
          next-told k s.0 x all w.nodes out out whole s.1 at
              (sym (append-nil out) ∙ ap (λ (l : List ℕ). out ++ l) (sym (none s.0 (enough.others k s.0 x s.1 at not)))) so.0,
          so.1 ∙ picked-out set k all (slice_get_within all k s.0 s.1) not,
        )
