-- Where ranks fall along each way from a node, the tree seen from it exists.
use Rattle.std.proofs.Common.{◌≡◌, ◌≢◌, ℕ, zero, suc, ◌+◌, ◌<◌, ◌≤◌, ◌⊎◌, inl, inr, Option, Some, None, List, [], ◌∷◌, length, get_or, refl, sym, ap, arith}
use Rattle.std.proofs.lemmas.Bool.{cases_eq, cases_lt}
use Rattle.std.proofs.lemmas.Bool.Decides.{nat_tests}
use Rattle.topology_stack.specs.Tree.{Label, Tree, branch, Slots, no_more, absent, unplugged, up, down, statuses}
use Rattle.cabling.specs.declared.cable.End.{End}
use Rattle.cabling.specs.Wiring.{Wiring, ports_of, far, IsCabling}
use Rattle.cabling.specs.NodeSet.{Holds}
use Rattle.cabling.specs.Component.{IsClosed}
use Rattle.self_id.specs.Slots.{slot_count}
use Rattle.cabling.specs.Sees.{Sees, SeesFrom}
use Rattle.cabling.proofs.Ends.{plugged}
use Rattle.cabling.proofs.Near.{end_at}
use Rattle.cabling.proofs.Rank.{Ranked}

-- each way on from a node, come to by a port or by none, leads to a lower one
pub record Down (c : Wiring) (rank : ℕ → ℕ) (set x : ℕ) (from : Option ℕ) : Type 0 where
  pub here : Holds set x
  pub falls : (p : ℕ) (e : End) → far c (end_at x p) ≡ Some e → from ≢ Some p → rank e.node < rank x

some_apart : (p q : ℕ) → p ≢ q → Some p ≢ Some q
some_apart p q ne same = ne (cc)

pub down_root : (c : Wiring) (rank : ℕ → ℕ) (set root : ℕ) → IsCabling c → IsClosed c set →
    Ranked c set root rank → Holds set root → Down c rank set root None
down_root c rank set root is closed r has = record {
  here = has;
  falls = λ p e j ne. r.top e.node (closed (end_at root p) e j has) (λ same. is.two_nodes (end_at root p) e j (sym same));
}

pub down_next : (c : Wiring) (rank : ℕ → ℕ) (set root x p : ℕ) (from : Option ℕ) (e : End) →
    IsCabling c → IsClosed c set → Ranked c set root rank → Down c rank set x from →
    far c (end_at x p) ≡ Some e → from ≢ Some p → Down c rank set e.node (Some e.port)
down_next c rank set root x p from e is closed r d j ne =
    let here : Holds set e.node = closed (end_at x p) e j d.here in
    let back : far c (end_at e.node e.port) ≡ Some (end_at x p) = is.both_ways (end_at x p) e j in
    record {
      here = here;
      falls = λ q b jb nb.
          let in_set : Holds set b.node = closed (end_at e.node q) b jb here in
          elim (cases_lt (rank b.node) (rank e.node)) [
            | inl less ↦ less
            | inr more ↦
                let above : rank e.node < rank b.node = omega (arith, r.differ e.node q b here in_set jb) in
                absurd (nb (ap (λ (n : ℕ). Some n) (r.one_up e.node e.port q (end_at x p) b here d.here in_set back jb (d.falls p e j ne) above)))
          ];
    }

-- ---- slots

-- the far ends of the ports from a number on
abbrev pub RowAt : Wiring → ℕ → ℕ → List (Option End) → Type 0
RowAt c x p row = (i q : ℕ) → q ≡ p + i → far c (end_at x q) ≡ get_or row i None

pub row_all : (c : Wiring) (x : ℕ) → RowAt c x 0 (ports_of c x)
row_all c x i q e = let same : q ≡ i = omega arith in ap (λ (n : ℕ). far c (end_at x n)) same

pub row_tail : (c : Wiring) (x p : ℕ) (r : Option End) (row : List (Option End)) →
    RowAt c x p (r ∷ row) → RowAt c x (p + 1) row
row_tail c x p r row at i q e = at (suc i) q (omega arith)

pub row_head : (c : Wiring) (x p : ℕ) (r : Option End) (row : List (Option End)) →
    RowAt c x p (r ∷ row) → far c (end_at x p) ≡ r
row_head c x p r row at = at 0 p (omega arith)

-- slots that no port has
abbrev pad : ℕ → Slots
pad zero = no_more
pad (suc n) = absent (pad n)

pad-length : (n : ℕ) → length (statuses (pad n)) ≡ n
pad-length zero = refl
pad-length (suc n) = ap (λ (k : ℕ). suc k) (pad-length n)

pad-seen : (c : Wiring) (label : ℕ → Label) (from : Option ℕ) (p n : ℕ) →
    SeesFrom c label from p [] (pad n)
pad-seen c label from p zero = tt
pad-seen c label from p (suc n) = pad-seen c label from (p + 1) n

pub record SlotsSeen (c : Wiring) (label : ℕ → Label) (from : Option ℕ) (p : ℕ) (row : List (Option End)) (count : ℕ) : Type 0 where
  pub slots : Slots
  pub seen : SeesFrom c label from p row slots
  pub count_is : length (statuses slots) ≡ count

pub from_or_not : (from : Option ℕ) (p : ℕ) → (from ≡ Some p) ⊎ (from ≢ Some p)
from_or_not None p = inr (λ e. cc)
from_or_not (Some q) p = elim (cases_eq q p) [ inl same ↦ inl (ap (λ (n : ℕ). Some n) same) | inr ne ↦ inr (some_apart q p ne) ]

-- a slot for each port, where the trees below can be seen
slots_seen : (c : Wiring) (label : ℕ → Label) (x : ℕ) (from : Option ℕ) (p : ℕ) (row : List (Option End)) (count : ℕ) →
    RowAt c x p row → length row ≤ count →
    ((q : ℕ) (e : End) → far c (end_at x q) ≡ Some e → from ≢ Some q → (t : Tree) × Sees c label e.node (Some e.port) t) →
    SlotsSeen c label from p row count
slots_seen c label x from p [] count at few below = record { slots = pad count; seen = pad-seen c label from p count; count_is = pad-length count }
slots_seen c label x from p (r ∷ row) zero at few below = absurd (omega (arith, few))
slots_seen c label x from p (None ∷ row) (suc count) at few below =
    let rest = slots_seen c label x from (p + 1) row count (row_tail c x p None row at) (omega (arith, few)) below in
    record { slots = unplugged rest.slots; seen = rest.seen; count_is = ap (λ (k : ℕ). suc k) rest.count_is }
slots_seen c label x from p (Some e ∷ row) (suc count) at few below =
    let rest = slots_seen c label x from (p + 1) row count (row_tail c x p (Some e) row at) (omega (arith, few)) below in
    elim (from_or_not from p) [
      | inl is ↦ record { slots = up rest.slots; seen = (is, rest.seen); count_is = ap (λ (k : ℕ). suc k) rest.count_is }
      | inr ne ↦
          let t = below p e (row_head c x p (Some e) row at) ne in
          record { slots = down t.0 rest.slots; seen = (ne, t.1, rest.seen); count_is = ap (λ (k : ℕ). suc k) rest.count_is }
    ]

pub wide : (n : ℕ) → n ≤ 16 → n ≤ slot_count n
wide n h = grind (arith, nat_tests)

node_exists : (c : Wiring) (x p : ℕ) (e : End) → far c (end_at x p) ≡ Some e → x < length c
node_exists c x p e j = (plugged c (end_at x p) e j).node

-- the tree from a node whose ways on all fall
pub seen_from : (fuel : ℕ) (c : Wiring) (label : ℕ → Label) (rank : ℕ → ℕ) (set root x : ℕ) (from : Option ℕ) →
    IsCabling c → IsClosed c set → Ranked c set root rank → x < length c → rank x < fuel →
    Down c rank set x from → (t : Tree) × Sees c label x from t
seen_from zero c label rank set root x from is closed r there less d = absurd (omega (arith, less))
seen_from (suc fuel) c label rank set root x from is closed r there less d =
    let s = slots_seen c label x from 0 (ports_of c x) (slot_count (length (ports_of c x))) (row_all c x) (wide (length (ports_of c x)) (is.few_ports x there))
    (λ q e j ne. seen_from fuel c label rank set root e.node (Some e.port) is closed r
    (plugged c e (end_at x q) (is.both_ways (end_at x q) e j)).node
    (omega (arith, less, d.falls q e j ne))
    (down_next c rank set root x q from e is closed r d j ne)) in
    (branch (label x) s.slots, (refl, s.count_is, s.seen))
