-- The reached blocks have a first fault, or none of them has a fault.
use Rattle.std.proofs.Common.{◌≡◌, ℕ, zero, suc, ◌+◌, ◌^◌, ◌<◌, ◌≤◌, ◌⊎◌, ◌↔◌, inl, inr, Bool, true, false, cond, eqb, Option, Some, None, List, length, refl, sym, ap, subst, arith}
use Rattle.std.specs.Prelude.{slice_index}
use Rattle.std.proofs.Math.ListN.{get_or-eq_default}
use Rattle.std.proofs.lemmas.Bool.{cases_lt, cases_eq, eqb-true, eqb-false}
use Rattle.config_rom.specs.declared.fault.RomFault.{RomFault}
use Rattle.config_rom.specs.declared.fault.RomFault.TheVariants.{Outside, SelfTarget}
use Rattle.config_rom.specs.declared.block.BlockKind.{BlockKind}
use Rattle.config_rom.specs.declared.block.BlockKind.TheVariants.{Directory, Leaf}
use Rattle.config_rom.specs.Layout.{length_at, end_of}
use Rattle.config_rom.specs.Block.{kind_of, value_of, LeadsTo, Blocks, IsClosed, IsReachable, IsSelfTarget, HasFault, IsFirstFault}
use Rattle.config_rom.proofs.Reached.{no_fault_at}

abbrev Decided : Type 0 → Type 0
Decided P = P ⊎ (P → ⊥)

-- the least number below a bound of which a test holds, or none
least : (P : ℕ → Type 0) → ((p : ℕ) → Decided (P p)) → (bound : ℕ) →
    ((p : ℕ) × P p × ((q : ℕ) → q < p → P q → ⊥)) ⊎ ((p : ℕ) → p < bound → P p → ⊥)
least P test zero = inr (λ p lt h. omega (arith, lt))
least P test (suc bound) = elim (least P test bound) [
  | inl found ↦ inl found
  | inr none ↦ elim (test bound) [
    | inl here ↦ inl (bound, here, none)
    | inr not ↦ inr (λ p lt h. elim (cases_eq p bound) [
      | inl same ↦ not (subst P same h)
      | inr other ↦ none p (omega (arith, lt, other)) h
    ])
  ]
]

-- ---- the reached blocks, place by place

both : Bool → Bool → Bool
both a b = cond a b false

either : Bool → Bool → Bool
either a b = cond a true b

both-true : (a b : Bool) → both a b ≡ true → (a ≡ true) × (b ≡ true)
unfolding both
both-true true b e = (refl, e)
both-true false b e = absurd cc

true-both : (a b : Bool) → a ≡ true → b ≡ true → both a b ≡ true
unfolding both
true-both true b x y = y
true-both false b x y = absurd cc

either-true : (a b : Bool) → either a b ≡ true → (a ≡ true) ⊎ (b ≡ true)
unfolding either
either-true true b e = inl refl
either-true false b e = inr e

true-left : (a b : Bool) → a ≡ true → either a b ≡ true
unfolding either
true-left true b e = refl
true-left false b e = absurd cc

true-right : (a b : Bool) → b ≡ true → either a b ≡ true
unfolding either
true-right true b e = refl
true-right false b e = e

is_kind : Option BlockKind → BlockKind → Bool
is_kind None k = false
is_kind (Some Directory) Directory = true
is_kind (Some Directory) Leaf = false
is_kind (Some Leaf) Directory = false
is_kind (Some Leaf) Leaf = true

is_kind-true : (o : Option BlockKind) (k : BlockKind) → is_kind o k ≡ true → o ≡ Some k
unfolding is_kind
is_kind-true None k e = absurd cc
is_kind-true (Some Directory) Directory e = refl
is_kind-true (Some Directory) Leaf e = absurd cc
is_kind-true (Some Leaf) Directory e = absurd cc
is_kind-true (Some Leaf) Leaf e = refl

kind-is : (k : BlockKind) → is_kind (Some k) k ≡ true
unfolding is_kind
kind-is Directory = refl
kind-is Leaf = refl

-- one of so many entries of a directory leads there
leads : List ℕ → ℕ → ℕ → BlockKind → ℕ → Bool
leads quads d zero k p = false
leads quads d (suc count) k p =
    either (leads quads d count k p)
    (both (is_kind (kind_of (slice_index quads (d + 1 + count))) k) (eqb p (d + 1 + count + value_of (slice_index quads (d + 1 + count)))))

leads-true : (quads : List ℕ) (d count : ℕ) (k : BlockKind) (p : ℕ) → count ≤ length_at quads d →
    leads quads d count k p ≡ true → (e : ℕ) × LeadsTo quads d e k p
unfolding leads
leads-true quads d zero k p le h = absurd cc
leads-true quads d (suc count) k p le h = elim (either-true _ _ h) [
  | inl before ↦ leads-true quads d count k p (omega (arith, le)) before
  | inr here ↦
      let t = both-true _ _ here in (
        d + 1 + count,
        record {
          is_entry = record { behind = omega arith; inside = omega (arith, le) };
          kind_is = is_kind-true _ _ t.0;
          target_is = eqb-true _ _ t.1;
        },
      )
]

true-leads : (quads : List ℕ) (d e count : ℕ) (k : BlockKind) (p : ℕ) → e < d + 1 + count →
    LeadsTo quads d e k p → leads quads d count k p ≡ true
unfolding leads
true-leads quads d e zero k p lt l = absurd (omega (arith, lt, l.is_entry.behind))
true-leads quads d e (suc count) k p lt l = elim (cases_eq e (d + 1 + count)) [
  | inr other ↦ true-left _ _ (true-leads quads d e count k p (omega (arith, lt, other)) l)
  | inl same ↦
      let kind : kind_of (slice_index quads (d + 1 + count)) ≡ Some k = subst (λ x. kind_of (slice_index quads x) ≡ Some k) same l.kind_is in
      let place : p ≡ d + 1 + count + value_of (slice_index quads (d + 1 + count)) = subst (λ x. p ≡ x + value_of (slice_index quads x)) same l.target_is in
      true-right _ _ (true-both _ _ (subst (λ o. is_kind o k ≡ true) (sym kind) (kind-is k)) (eq_test p _ place))
]
  where
    eq_test : (a b : ℕ) → a ≡ b → eqb a b ≡ true
    eq_test a b e = go (eqb a b) refl
      where
        go : (t : Bool) → eqb a b ≡ t → eqb a b ≡ true
        go true h = h
        go false h = absurd (eqb-false a b h e)

is_root : ℕ → BlockKind → ℕ → Bool
is_root root k p = both (is_kind (Some k) Directory) (eqb p root)

-- what the directories below a place lead to
upto : List ℕ → ℕ → ℕ → Blocks
upto quads root zero k p = is_root root k p
upto quads root (suc n) k p = either (upto quads root n k p) (both (upto quads root n Directory n) (leads quads n (length_at quads n) k p))

grows : (quads : List ℕ) (root m n : ℕ) (k : BlockKind) (p : ℕ) → m ≤ n →
    upto quads root m k p ≡ true → upto quads root n k p ≡ true
unfolding upto
grows quads root m zero k p le h = let none : m ≡ 0 = omega (arith, le) in subst (λ x. upto quads root x k p ≡ true) none h
grows quads root m (suc n) k p le h = elim (cases_eq m (suc n)) [
  | inl same ↦ subst (λ x. upto quads root x k p ≡ true) same h
  | inr other ↦ true-left _ _ (grows quads root m n k p (omega (arith, le, other)) h)
]

-- a place is settled by the directories below it
settled : (quads : List ℕ) (root m n : ℕ) (k : BlockKind) (p : ℕ) → p ≤ m →
    upto quads root n k p ≡ true → upto quads root m k p ≡ true
unfolding upto
settled quads root m zero k p le h = grows quads root zero m k p (omega arith) h
settled quads root m (suc n) k p le h = elim (either-true _ _ h) [
  | inl before ↦ settled quads root m n k p le before
  | inr now ↦
      let t = both-true _ _ now in
      let l = leads-true quads n (length_at quads n) k p (omega arith) t.1 in
      let behind : n < p = omega (arith, l.1.is_entry.behind, l.1.target_is) in
      let more : upto quads root (suc n) k p ≡ true = true-right _ _ (true-both _ _ t.0 t.1) in
      grows quads root (suc n) m k p (omega (arith, behind, le)) more
]

-- an entry is among the quadlets
some_kind : (quads : List ℕ) (e : ℕ) (k : BlockKind) → kind_of (slice_index quads e) ≡ Some k →
    e < length quads
some_kind quads e k h = elim (cases_lt e (length quads)) [
  | inl less ↦ less
  | inr more ↦ absurd (none_some (kind_of (slice_index quads e)) k (ap (λ q. kind_of q) (get_or-eq_default quads 0 more)) h)
]
  where
    none_some : (o : Option BlockKind) (k : BlockKind) → o ≡ None → o ≡ Some k → ⊥
    none_some o k n s = cc

reached : List ℕ → ℕ → Blocks
reached quads root = upto quads root (length quads)

reached_closed : (quads : List ℕ) (root : ℕ) → IsClosed quads root (reached quads root)
unfolding reached upto is_root
reached_closed quads root = record {
  root_in = grows quads root zero (length quads) Directory root (omega arith) (true-both _ _ (kind-is Directory) (eq_self root));
  targets_in = λ d e t k h l.
      let lt : d < length quads = omega (arith, l.is_entry.behind, some_kind quads e k l.kind_is) in
      let here = settled quads root d (length quads) Directory d (omega arith) h in
      let found = true-leads quads d e (length_at quads d) k t (omega (arith, l.is_entry.inside)) l in
      let more : upto quads root (suc d) k t ≡ true = true-right _ _ (true-both _ _ here found) in
      grows quads root (suc d) (length quads) k t (omega (arith, lt)) more;
}
  where
    eq_self : (a : ℕ) → eqb a a ≡ true
    eq_self a = go (eqb a a) refl
      where
        go : (t : Bool) → eqb a a ≡ t → eqb a a ≡ true
        go true h = h
        go false h = absurd (eqb-false a a h refl)

same_kind : (a b : BlockKind) → Some a ≡ Some b → a ≡ b
same_kind a b e = cc

upto_reached : (quads : List ℕ) (root n : ℕ) (k : BlockKind) (p : ℕ) →
    upto quads root n k p ≡ true → IsReachable quads root k p
unfolding upto is_root
upto_reached quads root zero k p h set c =
    let t = both-true _ _ h in
    let kind : k ≡ Directory = same_kind k Directory (is_kind-true _ _ t.0) in
    let place : p ≡ root = eqb-true _ _ t.1 in
    subst (λ x. set x p ≡ true) (sym kind) (subst (λ x. set Directory x ≡ true) (sym place) c.root_in)
upto_reached quads root (suc n) k p h set c = elim (either-true _ _ h) [
  | inl before ↦ upto_reached quads root n k p before set c
  | inr now ↦
      let t = both-true _ _ now in
      let l = leads-true quads n (length_at quads n) k p (omega arith) t.1 in
      c.targets_in n l.0 p k (upto_reached quads root n Directory n t.0 set c) l.1
]

-- the set of the reached blocks
pub record ReachedSet (quads : List ℕ) (root : ℕ) : Type 0 where
  pub set : Blocks
  pub set_is : (k : BlockKind) (p : ℕ) → (set k p ≡ true) ↔ IsReachable quads root k p

pub reached_set : (quads : List ℕ) (root : ℕ) → ReachedSet quads root
unfolding reached
reached_set quads root = record {
  set = reached quads root;
  set_is = λ k p. (upto_reached quads root (length quads) k p, λ r. r (reached quads root) (reached_closed quads root));
}

pub is_reached : (quads : List ℕ) (root : ℕ) (k : BlockKind) (p : ℕ) →
    Decided (IsReachable quads root k p)
unfolding reached
is_reached quads root k p = go (reached quads root k p) refl
  where
    false_true : (b : Bool) → b ≡ false → b ≡ true → ⊥
    false_true b f t = cc

    go : (b : Bool) → reached quads root k p ≡ b → Decided (IsReachable quads root k p)
    go true e = inl (upto_reached quads root (length quads) k p e)
    go false e = inr (λ r. false_true (reached quads root k p) e (r (reached quads root) (reached_closed quads root)))

-- ---- faults

itself : (quads : List ℕ) (d e : ℕ) → Decided (IsSelfTarget quads d e)
itself quads d e = elim (cases_lt d e) [
  | inr before ↦ inr (λ s. omega (arith, before, s.leads.is_entry.behind))
  | inl behind ↦ elim (cases_lt e (end_of quads d)) [
    | inr past ↦ inr (λ s. omega (arith, past, s.leads.is_entry.inside))
    | inl inside ↦ elim (cases_eq (value_of (slice_index quads e)) 0) [
      | inr some ↦ inr (λ s. some (omega (arith, s.leads.target_is)))
      | inl nought ↦ by_kind (kind_of (slice_index quads e)) refl behind inside nought
    ]
  ]
]
  where
    none_some : (o : Option BlockKind) (k : BlockKind) → o ≡ None → o ≡ Some k → ⊥
    none_some o k n s = cc

    by_kind : (o : Option BlockKind) → kind_of (slice_index quads e) ≡ o → d < e → e < end_of quads d → value_of (slice_index quads e) ≡ 0 → Decided (IsSelfTarget quads d e)
    by_kind None h a b z = inr (λ s. none_some (kind_of (slice_index quads e)) s.kind h s.leads.kind_is)
    by_kind (Some k) h a b z = inl (record { kind = k; leads = record { is_entry = record { behind = a; inside = b }; kind_is = h; target_is = omega (arith, z) } })

SomeFaultAt : List ℕ → BlockKind → ℕ → Type 0
SomeFaultAt quads k p = (f : RomFault) × HasFault quads k p f

fault_at : (quads : List ℕ) (k : BlockKind) (p : ℕ) → Decided (SomeFaultAt quads k p)
unfolding SomeFaultAt
fault_at quads k p = elim (cases_lt (length quads) (end_of quads p)) [
  | inl past ↦ inl (Outside p, (refl, past))
  | inr whole ↦ inside k whole
]
  where
    leaf : Leaf ≡ Directory → ⊥
    leaf e = cc

    inside : (k : BlockKind) → end_of quads p ≤ length quads → Decided (SomeFaultAt quads k p)
    inside Leaf whole = inr (λ f. no_fault_at quads Leaf p f.0 whole (λ e. absurd (leaf e)) f.1)
    inside Directory whole = elim (least (IsSelfTarget quads p) (itself quads p) (end_of quads p)) [
      | inl found ↦ inl (SelfTarget found.0, (whole, found.1, found.2))
      | inr none ↦ inr (λ f. no_fault_at quads Directory p f.0 whole (λ e entry lt s. none entry lt s) f.1)
    ]

FaultyAt : List ℕ → ℕ → ℕ → Type 0
FaultyAt quads root p = (k : BlockKind) × (IsReachable quads root k p × SomeFaultAt quads k p)

kinds : (P : BlockKind → Type 0) → Decided (P Directory) → Decided (P Leaf) →
    Decided ((k : BlockKind) × P k)
kinds P (inl h) b = inl (Directory, h)
kinds P (inr a) (inl h) = inl (Leaf, h)
kinds P (inr a) (inr b) = inr (λ x. neither x.0 x.1)
  where
    neither : (k : BlockKind) → P k → ⊥
    neither Directory h = a h
    neither Leaf h = b h

together : (A B : Type 0) → Decided A → Decided B → Decided (A × B)
together A B (inl a) (inl b) = inl (a, b)
together A B (inl a) (inr b) = inr (λ x. b x.1)
together A B (inr a) d = inr (λ x. a x.0)

faulty_at : (quads : List ℕ) (root p : ℕ) → Decided (FaultyAt quads root p)
unfolding FaultyAt
faulty_at quads root p =
    kinds (λ k. IsReachable quads root k p × SomeFaultAt quads k p)
    (together (IsReachable quads root Directory p) (SomeFaultAt quads Directory p) (is_reached quads root Directory p) (fault_at quads Directory p))
    (together (IsReachable quads root Leaf p) (SomeFaultAt quads Leaf p) (is_reached quads root Leaf p) (fault_at quads Leaf p))

-- no place from a bound on is reached
bounded : (quads : List ℕ) (root n : ℕ) (k : BlockKind) (p : ℕ) → upto quads root n k p ≡ true →
    p < root + 1 + length quads + 2 ^ 24
unfolding upto is_root
bounded quads root zero k p h = let place : p ≡ root = eqb-true _ _ (both-true _ _ h).1 in omega (arith, place)
bounded quads root (suc n) k p h = elim (either-true _ _ h) [
  | inl before ↦ bounded quads root n k p before
  | inr now ↦
      let l = leads-true quads n (length_at quads n) k p (omega arith) (both-true _ _ now).1 in
      omega (arith, l.1.target_is, some_kind quads l.0 k l.1.kind_is)
]

reached_bounded : (quads : List ℕ) (root : ℕ) (k : BlockKind) (p : ℕ) → IsReachable quads root k p →
    p < root + 1 + length quads + 2 ^ 24
unfolding reached
reached_bounded quads root k p r = bounded quads root (length quads) k p (r (reached quads root) (reached_closed quads root))

pub first_or_none : (quads : List ℕ) (root : ℕ) →
    ((f : RomFault) × IsFirstFault quads root f)
    ⊎ ((k : BlockKind) (p : ℕ) → IsReachable quads root k p → (f : RomFault) → HasFault quads k p f → ⊥)
unfolding FaultyAt SomeFaultAt
first_or_none quads root = elim (least (FaultyAt quads root) (faulty_at quads root) (root + 1 + length quads + 2 ^ 24)) [
  | inl found ↦ inl (
    found.1.1.1.0,
    record {
      kind = found.1.0;
      at = found.0;
      reached = found.1.1.0;
      has = found.1.1.1.1;
      earlier = λ other p r lt f h. found.2 p lt (other, (r, (f, h)));
    },
  )
  | inr none ↦ inr (λ k p r f h. none p (reached_bounded quads root k p r) (k, (r, (f, h))))
]
