-- A component grows from one node: `done` has the nodes whose neighbours were taken, `waiting` the others.
use Rattle.std.proofs.Common.{◌≡◌, ◌≢◌, ℕ, ◌<◌, ◌↔◌, ◌⊎◌, inl, inr, length, refl, sym, subst}
use Rattle.std.specs.Int.{bit_at}
use Rattle.std.proofs.lemmas.Bool.{cases_eq}
use Rattle.cabling.specs.Wiring.{Wiring, IsCabling}
use Rattle.cabling.specs.NodeSet.{Holds}
use Rattle.cabling.specs.Component.{IsNeighbour, IsClosed, IsComponent}
use Rattle.cabling.proofs.Ends.{plugged}
use Rattle.cabling.proofs.Bits.{none_of_zero}

abbrev Found : ℕ → ℕ → ℕ → Type 0
Found done waiting x = Holds done x ⊎ Holds waiting x

pub record Growing (c : Wiring) (node done waiting : ℕ) : Type 0 where
  pub holds : Found done waiting node
  pub least : (other : ℕ) → Holds other node → IsClosed c other → (x : ℕ) → Found done waiting x →
      Holds other x
  pub closed : (x y : ℕ) → Holds done x → IsNeighbour c x y → Found done waiting y
  pub apart : (x : ℕ) → Holds waiting x → Holds done x → ⊥
  pub exist : (x : ℕ) → Found done waiting x → x < length c

-- a neighbour is there
pub neighbour_exists : (c : Wiring) (x y : ℕ) → IsCabling c → IsNeighbour c x y → y < length c
neighbour_exists c x y is n = subst (λ (z : ℕ). z < length c) n.is (plugged c n.end (record { node = x; port = n.port }) (is.both_ways (record { node = x; port = n.port }) n.end n.joined)).node

closed_along : (c : Wiring) (other x y : ℕ) → IsClosed c other → Holds other x → IsNeighbour c x y →
    Holds other y
closed_along c other x y closed h n = subst (λ (z : ℕ). Holds other z) n.is (closed (record { node = x; port = n.port }) n.end n.joined h)

-- at first only the node waits
pub growing_first : (c : Wiring) (node none waiting : ℕ) → node < length c → none ≡ 0 →
    Holds waiting node → ((x : ℕ) → x ≢ node → (Holds waiting x ↔ Holds 0 x)) →
    Growing c node none waiting
growing_first c node none waiting there zero is others =
    let only : (x : ℕ) → Found none waiting x → x ≡ node = λ x f. elim f [
      | inl d ↦ absurd (none_of_zero x (subst (λ (n : ℕ). Holds n x) zero d))
      | inr w ↦ elim (cases_eq x node) [
        | inl same ↦ same
        | inr ne ↦ absurd (none_of_zero x ((others x ne).0 w))
      ]
    ] in
    record {
      holds = inr is;
      least = λ other has closed x f. subst (λ (z : ℕ). Holds other z) (sym (only x f)) has;
      closed = λ x y d n. absurd (none_of_zero x (subst (λ (m : ℕ). Holds m x) zero d));
      apart = λ x w d. none_of_zero x (subst (λ (m : ℕ). Holds m x) zero d);
      exist = λ x f. subst (λ (z : ℕ). z < length c) (sym (only x f)) there;
    }

-- one node that waits is done: its neighbours wait that weren't found
pub record Grows (c : Wiring) (next done waiting near both done_after waiting_after : ℕ) : Type 0 where
  pub done_now : Holds done_after next
  pub done_others : (x : ℕ) → x ≢ next → (Holds done_after x ↔ Holds done x)
  pub near_is : (x : ℕ) → (Holds near x ↔ IsNeighbour c next x)
  pub both_is : (x : ℕ) → (Holds both x ↔ (Holds waiting x ⊎ Holds near x))
  pub after : (x : ℕ) → (Holds waiting_after x ↔ (Holds both x × (Holds done_after x → ⊥)))

pub growing_next : (c : Wiring) (node next done waiting near both done_after waiting_after : ℕ) →
    IsCabling c → Growing c node done waiting → Holds waiting next →
    Grows c next done waiting near both done_after waiting_after →
    Growing c node done_after waiting_after
growing_next c node next done waiting near both done_after waiting_after is g h s =
    let dec : (x : ℕ) → (Holds done_after x) ⊎ (Holds done_after x → ⊥) = λ x. elim (cases_eq (bit_at done_after x) 1) [ inl a ↦ inl a | inr a ↦ inr a ] in
    let keeps : (x : ℕ) → Holds done x → Holds done_after x = λ x d. elim (cases_eq x next) [
      | inl same ↦ subst (λ (z : ℕ). Holds done_after z) (sym same) s.done_now
      | inr ne ↦ (s.done_others x ne).1 d
    ] in
    let found : (x : ℕ) → (Holds waiting x ⊎ Holds near x) → Found done_after waiting_after x = λ x f. elim (dec x) [
      | inl d ↦ inl d
      | inr n ↦ inr ((s.after x).1 ((s.both_is x).1 f, n))
    ] in
    let stays : (x : ℕ) → Found done waiting x → Found done_after waiting_after x = λ x f. elim f [
      | inl d ↦ inl (keeps x d)
      | inr w ↦ found x (inl w)
    ] in
    let from : (x : ℕ) → Found done_after waiting_after x → (Found done waiting x) ⊎ IsNeighbour c next x = λ x f. elim f [
      | inl d ↦ elim (cases_eq x next) [
        | inl same ↦ inl (inr (subst (λ (z : ℕ). Holds waiting z) (sym same) h))
        | inr ne ↦ inl (inl ((s.done_others x ne).0 d))
      ]
      | inr w ↦ elim ((s.both_is x).0 ((s.after x).0 w).0) [
        | inl old ↦ inl (inr old)
        | inr new ↦ inr ((s.near_is x).0 new)
      ]
    ] in
    record {
      holds = stays node g.holds;
      least = λ other has closed x f. elim (from x f) [
        | inl old ↦ g.least other has closed x old
        | inr n ↦ closed_along c other next x closed (g.least other has closed next (inr h)) n
      ];
      closed = λ x y d n. elim (cases_eq x next) [
        | inl same ↦ found y (inr ((s.near_is y).1 (subst (λ (z : ℕ). IsNeighbour c z y) same n)))
        | inr ne ↦ stays y (g.closed x y ((s.done_others x ne).0 d) n)
      ];
      apart = λ x w d. ((s.after x).0 w).1 d;
      exist = λ x f. elim (from x f) [
        | inl old ↦ g.exist x old
        | inr n ↦ neighbour_exists c next x is n
      ];
    }

-- where none waits the component is found
pub growing_last : (c : Wiring) (node done waiting : ℕ) → Growing c node done waiting →
    ((x : ℕ) → Holds waiting x → ⊥) → IsComponent c node done
growing_last c node done waiting g none =
    let done_all : (x : ℕ) → Found done waiting x → Holds done x = λ x f. elim f [ inl d ↦ d | inr w ↦ absurd (none x w) ] in
    record {
      holds = done_all node g.holds;
      closed = λ a b e h. done_all b.node (g.closed a.node b.node h (record { port = a.port; end = b; joined = e; is = refl }));
      least = λ other has closed x d. g.least other has closed x (inl d);
    }
