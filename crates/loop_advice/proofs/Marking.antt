-- What marks say of the cables whose ends were marked.
use Rattle.std.proofs.Common.{◌≡◌, ◌≢◌, ℕ, ◌<◌, inl, inr, ◌↔◌, Some, List, [], ◌∷◌, ◌++◌, get_or, true, false, refl, sym, subst, ap, ◌∙◌, arith}
use Rattle.std.proofs.lemmas.Bool.{cases_eq}
use Rattle.cabling.specs.declared.cable.End.{End}
use Rattle.cabling.specs.declared.cable.Cable.{Cable}
use Rattle.cabling.specs.Wiring.{Wiring, far, IsCabling}
use Rattle.cabling.specs.NodeSet.{Holds}
use Rattle.cabling.specs.Component.{IsClosed}
use Rattle.cabling.proofs.Lemmas.{cases_end, one_other, plugged}
use Rattle.loop_advice.specs.Cables.{Lists, HasNoneTwice, IsCableOf, HoldsEachOnce}
use Rattle.loop_advice.specs.codings.Marks.{place, IsMarked, AreMarked}
use Rattle.loop_advice.specs.declared.marks.Marks.{Marks}
use Rattle.loop_advice.proofs.Listed.{lists_left, lists_right, lists_last, once_last, of_same}

abbrev pub cable : End → End → Cable
cable a b = record { a = a; b = b }

-- the cables so far are cables of the set, none of them twice, and their ends are marked
pub record Marking (c : Wiring) (set : ℕ) (done : List Cable) (m : Marks) : Type 0 where
  pub valid : (x : Cable) → Lists done x → IsCableOf c set x
  pub once : HasNoneTwice done
  pub marked : (a : End) → a.port < 16 → IsMarked m a → (b : End) × Lists done (cable a b)
  pub ends : (x : Cable) → Lists done x → IsMarked m x.a

-- an end with a cable is at a port below 16
pub few_ports : (c : Wiring) (a b : End) → IsCabling c → far c a ≡ Some b → a.port < 16
few_ports c a b is e =
    let there = plugged c a b e in
    omega (arith, there.port, is.few_ports a.node there.node)

pub few_nodes : (c : Wiring) (a b : End) → IsCabling c → far c a ≡ Some b → a.node < 63
few_nodes c a b is e =
    let there = plugged c a b e in
    omega (arith, there.node, is.few_nodes)

-- two ends at one place are one
same_place : (a b : End) → a.port < 16 → b.port < 16 → a ≢ b → place a ≢ place b
same_place a b p q ne e = elim (cases_eq a.node b.node) [
  | inl n ↦ elim (cases_eq a.port b.port) [
    | inl o ↦ elim (cases_end a b) [ inl s ↦ ne s | inr d ↦ absurd (d (let at : ℕ → ℕ → End = λ x y. record { node = x; port = y } in ap (λ (x : ℕ). at x a.port) n ∙ ap (λ (y : ℕ). at b.node y) o)) ]
    | inr o ↦ absurd (o (omega (arith, e, n)))
  ]
  | inr n ↦ absurd (n (omega (arith, e, p, q)))
]

-- the cable at an end is the one that was listed
pub at_end : (c : Wiring) (set : ℕ) (done : List Cable) (m : Marks) (x : Cable) →
    Marking c set done m → IsCableOf c set x → x.a.port < 16 → IsMarked m x.a → Lists done x
at_end c set done m x k of p h =
    let found = k.marked x.a p h in
    let end : found.0 ≡ x.b = one_other (far c x.a) found.0 x.b (k.valid (cable x.a found.0) found.1).joined of.joined in
    subst (λ (b : End). Lists done (cable x.a b)) end found.1

-- both ends of one more cable were marked
pub record Marked (m after : Marks) (x : Cable) : Type 0 where
  pub near : IsMarked after x.a
  pub other : IsMarked after x.b
  pub rest : (e : End) → place e ≢ place x.a → place e ≢ place x.b →
      (IsMarked after e ↔ IsMarked m e)
  pub kept : (e : End) → IsMarked m e → IsMarked after e

pub marked_both : (m between after : Marks) (x : Cable) →
    IsMarked between x.a → ((e : End) → place e ≢ place x.a → (IsMarked between e ↔ IsMarked m e)) →
    IsMarked after x.b → ((e : End) → place e ≢ place x.b → (IsMarked after e ↔ IsMarked between e)) →
    Marked m after x
marked_both m between after x a others_a b others_b =
    let stays : (e : End) → IsMarked between e → IsMarked after e = λ e h. elim (cases_eq (place e) (place x.b)) [
      | inl same ↦ subst (λ (n : ℕ). get_or after.marked n false ≡ true) (sym same) b
      | inr ne ↦ (others_b e ne).1 h
    ] in
    record {
      near = stays x.a a;
      other = b;
      rest = λ e p q. ((λ h. (others_a e p).0 ((others_b e q).0 h)), (λ h. (others_b e q).1 ((others_a e p).1 h)));
      kept = λ e h. stays e (elim (cases_eq (place e) (place x.a)) [
        | inl same ↦ subst (λ (n : ℕ). get_or between.marked n false ≡ true) (sym same) a
        | inr ne ↦ (others_a e ne).1 h
      ]);
    }

pub marking_next : (c : Wiring) (set : ℕ) (done : List Cable) (m after : Marks) (x : Cable) →
    IsCabling c → IsClosed c set → Marking c set done m → IsCableOf c set x → (IsMarked m x.a → ⊥) → Marked m after x →
    Marking c set (done ++ x ∷ []) after
marking_next c set done m after x is closed k of free h =
    let back : far c x.b ≡ Some x.a = is.both_ways x.a x.b of.joined in
    let p : x.a.port < 16 = few_ports c x.a x.b is of.joined in
    let q : x.b.port < 16 = few_ports c x.b x.a is back in
    record {
      valid = λ z l. elim (lists_last done x z l) [
        | inl before ↦ k.valid z before
        | inr s ↦ of_same c set x z is closed s of
      ];
      once = once_last done x k.once (λ l. free (k.ends x l));
      marked = λ a pa ha. elim (cases_end a x.a) [
        | inl e ↦ (x.b, lists_right done (x ∷ []) (cable a x.b) (inl (inl (ap (λ (y : End). cable y x.b) e))))
        | inr ne_a ↦ elim (cases_end a x.b) [
          | inl e ↦ (x.a, lists_right done (x ∷ []) (cable a x.a) (inl (inr (ap (λ (y : End). cable y x.a) e))))
          | inr ne_b ↦
              let found = k.marked a pa ((h.rest a (same_place a x.a pa p ne_a) (same_place a x.b pa q ne_b)).0 ha) in
              (found.0, lists_left done (x ∷ []) (cable a found.0) found.1)
        ]
      ];
      ends = λ z l. elim (lists_last done x z l) [
        | inl before ↦ h.kept z.a (k.ends z before)
        | inr s ↦ elim s [
          | inl e ↦ subst (λ (y : Cable). IsMarked after y.a) (sym e) h.near
          | inr e ↦ subst (λ (y : Cable). IsMarked after y.a) (sym e) h.other
        ]
      ];
    }

-- where all ends of the set are marked the list has each cable
pub all_listed : (c : Wiring) (set : ℕ) (done : List Cable) (m : Marks) → IsCabling c →
    Marking c set done m → AreMarked c m set → HoldsEachOnce c set done
all_listed c set done m is k all = record {
  once = k.once;
  all = λ x. (k.valid x, λ of. at_end c set done m x k of (few_ports c x.a x.b is of.joined) (all x.a.node of.here x.a x.b of.joined refl));
}

-- where it has each cable all ends are marked
pub all_marked : (c : Wiring) (set : ℕ) (done : List Cable) (m : Marks) → Marking c set done m →
    HoldsEachOnce c set done → AreMarked c m set
all_marked c set done m k each node h a b e at =
    let here : Holds set a.node = subst (λ (n : ℕ). Holds set n) (sym at) h in
    k.ends (cable a b) ((each.all (cable a b)).1 (record { joined = e; here = here }))
