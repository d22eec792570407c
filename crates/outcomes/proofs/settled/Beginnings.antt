-- The turn in which the last node of a component comes to self identify: from there lists follow
-- the walk, so that the component comes to its tree.
use Rattle.std.proofs.Common.{◌≡◌, ◌⊎◌, inl, inr, ℕ, ◌<◌, Bool, true, false, not, ◌==◌, Option, Some, None, length, slice_get, refl, sym, ap, subst, arith, eq-eqb}
use Rattle.std.specs.Int.{bit_at}
use Rattle.std.proofs.lemmas.Bool.{cases_lt, eqb-true, not-false}
use Rattle.std.proofs.lemmas.Option.{slice_get_cases, slice_get_within}
use Rattle.outcomes.proofs.Common.{Tree, Wiring, IsCabling, Holds, IsComponent, IsCore, plugged, end_at, shared, hears_packets, PortNode, CableWorld, turn, IsLawful, turn-lawful, cabling-after, IsAcyclic, AreIdentifying, IsRoot, search-set, in-component, turn-acyclic, IsIdentifying, Settles, RootWalk, contrary}
use Rattle.convergence.specs.Acyclic.{IsTop}
use Rattle.convergence.proofs.Lemmas.{has-top}
use Rattle.outcomes.proofs.roots.Calm.{calm-in}
use Rattle.outcomes.proofs.identify.IdentifyingTurn.{turn-identifying}
use Rattle.outcomes.proofs.identify.MarksKept.{hears-late}
use Rattle.outcomes.proofs.numbers.Settling.{settles-first}
use Rattle.outcomes.proofs.roots.RootWalk.{root-walk}
use Rattle.outcomes.proofs.settled.Components.{Part}
use Rattle.outcomes.proofs.settled.Unnamed.{Above, above-of}
use Rattle.std.proofs.lemmas.Bool.{not-true}

-- ---- all, or one isn't

-- a node of the set isn't in self identify or A0
pub record IsUnfinished (w : CableWorld) (set : ℕ) : Type 0 where
  pub number : ℕ
  pub holds : Holds set number
  pub node : PortNode
  pub at : slice_get w.nodes number ≡ Some node
  pub out : hears_packets node.state.view.phase ≡ false

pub all-or-not : (w : CableWorld) (set : ℕ) → AreIdentifying w set ⊎ IsUnfinished w set
all-or-not w set = elim (search-set set (λ x. not (hears_packets x.state.view.phase)) w) [
  | inl none ↦ inl (λ k x h at. not-false (hears_packets x.state.view.phase) (none k x h at))
  | inr f ↦
      inr (record {
        number = f.0;
        holds = f.1.holds;
        node = f.1.node;
        at = f.1.at;
        out = not-true (hears_packets f.1.node.state.view.phase) f.1.passes;
      })
]

pub not-both-ways : (w : CableWorld) (set : ℕ) → IsUnfinished w set → AreIdentifying w set → ⊥
not-both-ways w set u all = contrary (all u.number u.node u.holds u.at) u.out

-- ---- a root

-- each node of the component of one that is there is there
pub all-there :
    (c : Wiring) (node set j k : ℕ) → IsCabling c → IsComponent c node set → Holds set j →
    j < length c → Holds set k → k < length c
all-there c node set j k is comp in_j there h = elim (cases_lt k (length c)) [
  | inl less ↦ less
  | inr more ↦
      absurd (in-component c j set (λ n. n < length c) is (shared c node j set is comp in_j) there
      there
      (λ a b e n. (plugged c b a (is.both_ways a b e)).node) k h
      (λ less. omega (arith, less, more)))
]

pub nodes-there :
    (w : CableWorld) → IsLawful w → (node set : ℕ) → IsComponent w.cabling node set →
    node < length w.nodes → (k : ℕ) → Holds set k → (x : PortNode) × (slice_get w.nodes k ≡ Some x)
nodes-there w l node set comp there k h = elim (slice_get_cases w.nodes k).1 [
  | inl found ↦ (found.0, found.2)
  | inr lacks ↦
      absurd (omega (
        arith,
        lacks.0,
        all-there w.cabling node set node k l.well_formed.cabling comp
            comp.holds (omega (arith, there, l.well_formed.count)) h,
        l.well_formed.count,
      ))
]

-- where all identify, the node above the others has no parent
pub has-root :
    (w : CableWorld) → IsLawful w → IsAcyclic w → IsIdentifying w → (node set j : ℕ) →
    IsComponent w.cabling node set → Holds set j → j < length w.cabling → AreIdentifying w set →
    (root : ℕ) × Holds set root × IsRoot w root
has-root w l acyclic i node set j comp in_j there all =
    (top.0, inside, root x.0.state.view.parent refl)
  where
    member : ℕ → Bool
    member k = bit_at set k == 1

    top : (k : ℕ) × IsTop w member k
    top = has-top w acyclic member j (eq-eqb (bit_at set j) 1 in_j)

    inside : Holds set top.0
    inside = eqb-true (bit_at set top.0) 1 top.1.is

    x : (u : PortNode) × (slice_get w.nodes top.0 ≡ Some u)
    x = elim (slice_get_cases w.nodes top.0).1 [
      | inl found ↦ (found.0, found.2)
      | inr lacks ↦
          absurd (omega (
            arith,
            lacks.0,
            all-there w.cabling node set j top.0 l.well_formed.cabling
                comp in_j there inside,
            l.well_formed.count,
          ))
    ]

    hears : hears_packets x.0.state.view.phase ≡ true
    hears = all top.0 x.0 inside x.1

    root : (o : Option ℕ) → x.0.state.view.parent ≡ o → IsRoot w top.0
    root None e = record {
      node = x.0;
      at = x.1;
      late = hears-late x.0.state.view.phase hears;
      parentless = e;
    }
    root (Some p) e =
        let u : Above w top.0 x.0 =
        above-of w l i set (calm-in w l set comp.closed all) top.0 p x.0 inside x.1 hears e in
        let up : Holds set u.from.node = comp.closed (end_at top.0 u.port) u.from u.back inside in
        absurd (top.1.none u.from (end_at top.0 u.port) u.cable refl
        (eq-eqb (bit_at set u.from.node) 1 up))

-- ---- the turn in which they come there

module _
    (w : CableWorld) (l : IsLawful w) (acyclic : IsAcyclic w) (i : IsIdentifying w)
    (p : Part w) (out : IsUnfinished w p.set) (all : AreIdentifying (turn w) p.set) where
  v-lawful : IsLawful (turn w)
  v-lawful = turn-lawful w l

  v-acyclic : IsAcyclic (turn w)
  v-acyclic = turn-acyclic w l acyclic

  same : (turn w).cabling ≡ w.cabling
  same = cabling-after w

  comp-v : IsComponent (turn w).cabling p.node p.set
  comp-v = subst (λ (c : Wiring). IsComponent c p.node p.set) (sym same) p.component

  core-v : IsCore (turn w).cabling p.set p.core
  core-v = subst (λ (c : Wiring). IsCore c p.set p.core) (sym same) p.is_core

  there : out.number < length (turn w).cabling
  there =
      omega (
        arith,
        slice_get_within w.nodes out.number out.node out.at,
        l.well_formed.count,
        ap (λ (c : Wiring). length c) same,
      )

  root : (k : ℕ) × Holds p.set k × IsRoot (turn w) k
  root =
      has-root (turn w) v-lawful v-acyclic (turn-identifying w l i) p.node p.set out.number comp-v
      out.holds there all

  walk : (t : Tree) × RootWalk (turn w) p.set root.0 t
  walk =
      root-walk (turn w) v-lawful v-acyclic p.node p.set
      (calm-in (turn w) v-lawful p.set comp-v.closed all) p.core root.0 comp-v core-v p.small root.1
      root.2

  comp-root : IsComponent w.cabling root.0 p.set
  comp-root = shared w.cabling p.node root.0 p.set l.well_formed.cabling p.component root.1

  pub begins-to-settle : Settles (turn w) p.set p.core
  begins-to-settle = record {
    root = root.0;
    tree = walk.0;
    is =
        settles-first w l acyclic i p.set p.core root.0 walk.0 comp-root p.is_core p.small root.1
        root.2 walk.1 all (not-both-ways w p.set out);
  }
