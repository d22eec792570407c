-- The parts of a comparison make it whole.
use Rattle.std.proofs.Common.{◌≡◌, ◌≢◌, ◌∙◌, ℕ, ◌+◌, ◌<◌, ◌⊎◌, inl, inr, ⊎_elim, Some, List, [], length, refl, sym, subst, ap, arith}
use Rattle.std.specs.Prelude.{Contains, slice_get}
use Rattle.self_id.specs.declared.node.Attrs.{Attrs}
use Rattle.self_id.specs.Node.{Node}
use Rattle.topology_stack.specs.Tree.{Tree, walk}
use Rattle.topology_stack.specs.Elect.{elected}
use Rattle.view_text.specs.Cable.{cables}
use Rattle.bus_diff.specs.declared.pair.Pair.{Pair}
use Rattle.bus_diff.specs.declared.change.Change.{Change}
use Rattle.bus_diff.specs.declared.change.Change.TheVariants.{Went, Came, Moved, Value, Root, Manager}
use Rattle.bus_diff.specs.declared.change.Quality.{Quality}
use Rattle.bus_diff.specs.declared.change.Quality.TheVariants.{Link, Gap, Speed, Contender, Power}
use Rattle.bus_diff.specs.Change.{value_of, hangs_on, pulled, plugged, Says, IsChange, AreChanges}
use Rattle.bus_diff.specs.codings.Told.{Adds, Below, IsGoneAt, IsNewAt, IsMoveOf, IsValueOf, IsSomeValueOf, IsValueAt, OfSome, IsRootChange, IsManagerChange}
use Rattle.bus_diff.proofs.Adding.{adds_then, adds_same}

-- ---- the values of a node

abbrev pub Five : Pair → Attrs → Attrs → Change → Type 0
Five p a b c =
    (((IsValueOf p a b Link c ⊎ IsValueOf p a b Gap c) ⊎ IsValueOf p a b Speed c)
    ⊎ IsValueOf p a b Contender c) ⊎ IsValueOf p a b Power c

five_to : (p : Pair) (a b : Attrs) (c : Change) → Five p a b c → IsSomeValueOf p a b c
five_to p a b c h = ⊎_elim
    (λ (h4 : ((IsValueOf p a b Link c ⊎ IsValueOf p a b Gap c) ⊎ IsValueOf p a b Speed c) ⊎ IsValueOf p a b Contender c). ⊎_elim
    (λ (h3 : (IsValueOf p a b Link c ⊎ IsValueOf p a b Gap c) ⊎ IsValueOf p a b Speed c). ⊎_elim
    (λ (h2 : IsValueOf p a b Link c ⊎ IsValueOf p a b Gap c). ⊎_elim
    (λ (v : IsValueOf p a b Link c). (Link, v))
    (λ (v : IsValueOf p a b Gap c). (Gap, v))
    h2)
    (λ (v : IsValueOf p a b Speed c). (Speed, v))
    h3)
    (λ (v : IsValueOf p a b Contender c). (Contender, v))
    h4)
    (λ (v : IsValueOf p a b Power c). (Power, v))
    h

five_of : (p : Pair) (a b : Attrs) (c : Change) (q : Quality) → IsValueOf p a b q c → Five p a b c
five_of p a b c Link v = inl (inl (inl (inl v)))
five_of p a b c Gap v = inl (inl (inl (inr v)))
five_of p a b c Speed v = inl (inl (inr v))
five_of p a b c Contender v = inl (inr v)
five_of p a b c Power v = inr v

pub adds_five : (p : Pair) (a b : Attrs) (v w x y z zz : List Change) →
    Adds v w (IsValueOf p a b Link) → Adds w x (IsValueOf p a b Gap) →
    Adds x y (IsValueOf p a b Speed) → Adds y z (IsValueOf p a b Contender) →
    Adds z zz (IsValueOf p a b Power) → Adds v zz (IsSomeValueOf p a b)
adds_five p a b v w x y z zz h1 h2 h3 h4 h5 =
    let L = IsValueOf p a b Link in
    let G = IsValueOf p a b Gap in
    let S = IsValueOf p a b Speed in
    let C = IsValueOf p a b Contender in
    let P = IsValueOf p a b Power in
    let t2 = adds_then v w x L G h1 h2 in
    let t3 = adds_then v x y (λ (c : Change). L c ⊎ G c) S t2 h3 in
    let t4 = adds_then v y z (λ (c : Change). (L c ⊎ G c) ⊎ S c) C t3 h4 in
    let t5 = adds_then v z zz (λ (c : Change). ((L c ⊎ G c) ⊎ S c) ⊎ C c) P t4 h5 in
    adds_same v zz (Five p a b) (IsSomeValueOf p a b) (five_to p a b) (λ c s. five_of p a b c s.0 s.1) t5

-- the nodes of a pair say so of themselves
pub adds_values : (ns ms : List Node) (p : Pair) (m n : Node) (a b : Attrs) (xs ys : List Change) →
    slice_get ns p.old ≡ Some m → slice_get ms p.new ≡ Some n → a ≡ m.attrs → b ≡ n.attrs →
    Adds xs ys (IsSomeValueOf p a b) → Adds xs ys (IsValueAt ns ms p)
adds_values ns ms p m n a b xs ys at_m at_n a_is b_is adds =
    adds_same xs ys (IsSomeValueOf p a b) (IsValueAt ns ms p)
    (λ c s.
    let says_m : Says ns p.old s.0 (value_of s.0 a) = rw at_m (ap (λ (x : Attrs). value_of s.0 x) (sym a_is)) in
    let says_n : Says ms p.new s.0 (value_of s.0 b) = rw at_n (ap (λ (x : Attrs). value_of s.0 x) (sym b_is)) in
    (s.0, value_of s.0 a, value_of s.0 b, says_m, says_n, s.1.0, s.1.1))
    (λ c s.
    let q : Quality = s.0 in
    let from_m : value_of q m.attrs ≡ s.1 = rw at_m at s.3 in
    let to_n : value_of q n.attrs ≡ s.2 = rw at_n at s.4 in
    let from_is : value_of q a ≡ s.1 = ap (λ (x : Attrs). value_of q x) a_is ∙ from_m in
    let to_is : value_of q b ≡ s.2 = ap (λ (x : Attrs). value_of q x) b_is ∙ to_n in
    let other : value_of q a ≢ value_of q b = λ e. s.5 (sym from_is ∙ e ∙ to_is) in
    let same : Value p q (value_of q a) (value_of q b) ≡ Value p q s.1 s.2 = rw (from_is, to_is) refl in
    (q, (other, s.6 ∙ sym same)))
    adds

-- ---- the whole

abbrev pub Parts : Tree → Tree → List Pair → ℕ → ℕ → Change → Type 0
Parts t u ps from to c =
    ((((Below (IsGoneAt (cables t) ps) (length (walk t)) c
    ⊎ Below (IsNewAt (cables u) ps) (length (walk u)) c)
    ⊎ OfSome ps (IsMoveOf ps (cables t) (cables u)) c)
    ⊎ OfSome ps (IsValueAt (walk t) (walk u)) c)
    ⊎ IsRootChange ps from to c)
    ⊎ IsManagerChange ps (elected t) (elected u) c

parts_of : (t u : Tree) (ps : List Pair) (from to : ℕ) → from + 1 ≡ length (walk t) →
    to + 1 ≡ length (walk u) → (c : Change) → IsChange t u ps c → Parts t u ps from to c
parts_of t u ps from to old_root new_root (Went id cable) h =
    inl (inl (inl (inl (inl (id, h.0, (h.1, let e : Went id cable ≡ Went id (hangs_on (cables t) id) = ap (Went id) h.2 in e))))))
parts_of t u ps from to old_root new_root (Came id cable) h =
    inl (inl (inl (inl (inr (id, h.0, (h.1, let e : Came id cable ≡ Came id (hangs_on (cables u) id) = ap (Came id) h.2 in e))))))
parts_of t u ps from to old_root new_root (Moved p a b) h =
    inl (inl (inl (inr (p, h.0, (rw (h.1, h.2) at h.3, let e : Moved p a b ≡ Moved p (pulled ps (cables t) (cables u) p.old) (plugged ps (cables t) (cables u) p.new) = rw (h.1, h.2) refl in e)))))
parts_of t u ps from to old_root new_root (Value p q a b) h =
    inl (inl (inr (p, h.0, (q, a, b, h.1, h.2, h.3, refl))))
parts_of t u ps from to old_root new_root (Root a b) h =
    let a_is : a ≡ from = omega (arith, h.0, old_root) in
    let b_is : b ≡ to = omega (arith, h.1, new_root) in
    inl (inr (rw (a_is, b_is) at h.2, rw (a_is, b_is) refl))
parts_of t u ps from to old_root new_root (Manager a b) h =
    inr (rw (h.0, h.1) at h.2, rw (h.0, h.1) refl)

change_of : (t u : Tree) (ps : List Pair) (from to : ℕ) → from + 1 ≡ length (walk t) →
    to + 1 ≡ length (walk u) → (c : Change) → Parts t u ps from to c → IsChange t u ps c
change_of t u ps from to old_root new_root c h =
    let Is : Change → Type 0 = IsChange t u ps in
    let Gone : Change → Type 0 = Below (IsGoneAt (cables t) ps) (length (walk t)) in
    let New : Change → Type 0 = Below (IsNewAt (cables u) ps) (length (walk u)) in
    let Move : Change → Type 0 = OfSome ps (IsMoveOf ps (cables t) (cables u)) in
    let Other : Change → Type 0 = OfSome ps (IsValueAt (walk t) (walk u)) in
    let Rooted : Change → Type 0 = IsRootChange ps from to in
    let Managed : Change → Type 0 = IsManagerChange ps (elected t) (elected u) in
    ⊎_elim
    (λ (h5 : (((Gone c ⊎ New c) ⊎ Move c) ⊎ Other c) ⊎ Rooted c). ⊎_elim
    (λ (h4 : ((Gone c ⊎ New c) ⊎ Move c) ⊎ Other c). ⊎_elim
    (λ (h3 : (Gone c ⊎ New c) ⊎ Move c). ⊎_elim
    (λ (h2 : Gone c ⊎ New c). ⊎_elim
    (λ (v : Gone c). subst Is (sym v.2.1) (v.1, v.2.0, refl))
    (λ (v : New c). subst Is (sym v.2.1) (v.1, v.2.0, refl))
    h2)
    (λ (v : Move c). subst Is (sym v.2.1) (v.1, refl, refl, v.2.0))
    h3)
    (λ (v : Other c). subst Is (sym v.2.6) (v.1, v.2.3, v.2.4, v.2.5))
    h4)
    (λ (v : Rooted c). subst Is (sym v.1) (old_root, new_root, v.0))
    h5)
    (λ (v : Managed c). subst Is (sym v.1) (refl, refl, v.0))
    h

pub whole : (t u : Tree) (ps : List Pair) (from to : ℕ) (s1 s2 s3 s4 s5 s6 : List Change) →
    from + 1 ≡ length (walk t) → to + 1 ≡ length (walk u) →
    Adds [] s1 (Below (IsGoneAt (cables t) ps) (length (walk t))) →
    Adds s1 s2 (Below (IsNewAt (cables u) ps) (length (walk u))) →
    Adds s2 s3 (OfSome ps (IsMoveOf ps (cables t) (cables u))) →
    Adds s3 s4 (OfSome ps (IsValueAt (walk t) (walk u))) →
    Adds s4 s5 (IsRootChange ps from to) →
    Adds s5 s6 (IsManagerChange ps (elected t) (elected u)) → AreChanges t u ps s6
whole t u ps from to s1 s2 s3 s4 s5 s6 old_root new_root h1 h2 h3 h4 h5 h6 =
    let Gone : Change → Type 0 = Below (IsGoneAt (cables t) ps) (length (walk t)) in
    let New : Change → Type 0 = Below (IsNewAt (cables u) ps) (length (walk u)) in
    let Move : Change → Type 0 = OfSome ps (IsMoveOf ps (cables t) (cables u)) in
    let Other : Change → Type 0 = OfSome ps (IsValueAt (walk t) (walk u)) in
    let Rooted : Change → Type 0 = IsRootChange ps from to in
    let Managed : Change → Type 0 = IsManagerChange ps (elected t) (elected u) in
    let t2 = adds_then [] s1 s2 Gone New h1 h2 in
    let t3 = adds_then [] s2 s3 (λ (c : Change). Gone c ⊎ New c) Move t2 h3 in
    let t4 = adds_then [] s3 s4 (λ (c : Change). (Gone c ⊎ New c) ⊎ Move c) Other t3 h4 in
    let t5 = adds_then [] s4 s5 (λ (c : Change). ((Gone c ⊎ New c) ⊎ Move c) ⊎ Other c) Rooted t4 h5 in
    let t6 = adds_then [] s5 s6 (λ (c : Change). (((Gone c ⊎ New c) ⊎ Move c) ⊎ Other c) ⊎ Rooted c) Managed t5 h6 in (
      λ c there. ⊎_elim
          (λ (nil : Contains [] c). let lt : nil.0 < 0 = nil.1 in absurd (omega (arith, lt)))
          (λ (parts : Parts t u ps from to c). change_of t u ps from to old_root new_root c parts)
          (t6.0 c there),
      λ c is. t6.1 c (inr (parts_of t u ps from to old_root new_root c is)),
    )
