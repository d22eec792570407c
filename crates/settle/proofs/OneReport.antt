-- A world has one report at most.
use Rattle.std.proofs.Common.{◌≡◌, ℕ, zero, suc, ◌^◌, ◌<◌, ◌⊎◌, inl, inr, List, [], ◌∷◌, length, get_or, refl, sym, ◌∙◌, ap, subst, arith}
use Rattle.std.specs.Prelude.{AllPairs}
use Rattle.std.specs.Int.{w64, trailing_zeros}
use Rattle.std.proofs.lemmas.Bool.{cases_eq}
use Rattle.topology_stack.specs.Tree.{emits}
use Rattle.cabling.specs.Wiring.{IsCabling}
use Rattle.cabling.specs.NodeSet.{Holds}
use Rattle.cabling.specs.Sees.{numbers}
use Rattle.cabling.proofs.Lemmas.{none_of_zero, some_node, shared, small-set}
use Rattle.cable_world.specs.World.{CableWorld, NodeNumber, NodeSet}
use Rattle.cable_world.specs.Run.{IsReached}
use Rattle.cable_world.specs.Outcome.{loop, tree, contention, IsLoop}
use Rattle.cable_world.proofs.Lemmas.{same-set, one-outcome, lawful-now}
use Rattle.settle.specs.declared.report.Outcome.{Outcome}
use Rattle.settle.specs.declared.report.Outcome.TheVariants as reported
use Rattle.settle.specs.declared.report.Part.{Part}
use Rattle.settle.specs.declared.report.Report.{Report}
use Rattle.settle.specs.Report.{AreThere, IsGreatest, Drew, LastChanged, IsPart, StartsBefore, AreParts, IsReport}
use Rattle.settle.specs.Reported.{IsReported, ReportsLoop}

-- ---- lists of parts that rise

In : Part → List Part → Type 0
In p [] = ⊥
In p (q ∷ qs) = (p ≡ q) ⊎ In p qs

Rising : List Part → Type 0
Rising [] = Unit {0}
Rising (x ∷ xs) = ((y : Part) → In y xs → StartsBefore x y) × Rising xs

in-at : (xs : List Part) (i : ℕ) (d : Part) → i < length xs → In (get_or xs i d) xs
unfolding In
in-at [] i d inside = absurd (omega (arith, inside))
in-at (x ∷ xs) zero d inside = inl refl
in-at (x ∷ xs) (suc i) d inside = inr (in-at xs i d (omega (arith, inside)))

-- the place of a part
place : (xs : List Part) (y : Part) → In y xs →
    (i : ℕ) × (i < length xs) × ((d : Part) → get_or xs i d ≡ y)
unfolding In
place [] y i = absurd i
place (x ∷ xs) y (inl e) = (0, omega arith, λ d. sym e)
place (x ∷ xs) y (inr i) = let p = place xs y i in (suc p.0, omega (arith, p.1), λ d. p.2 d)

rising : (xs : List Part) → AllPairs StartsBefore xs → Rising xs
unfolding Rising
rising [] h = tt
rising (x ∷ xs) h = (
  λ y i. let p = place xs y i in subst (StartsBefore x) (p.2 x) (h 0 (suc p.0) x (omega arith) (omega (arith, p.1))),
  rising xs (λ i j d less inside. h (suc i) (suc j) d (omega (arith, less)) (omega (arith, inside))),
)

not-both : (x y : Part) → StartsBefore x y → StartsBefore y x → ⊥
not-both x y a b = omega (arith, a.below b.least b.holds, b.below a.least a.holds)

same-head : (x y : Part) (xs ys : List Part) → Rising (x ∷ xs) → Rising (y ∷ ys) → In x (y ∷ ys) →
    In y (x ∷ xs) → x ≡ y
unfolding In Rising
same-head x y xs ys r s (inl e) j = e
same-head x y xs ys r s (inr i) (inl e) = sym e
same-head x y xs ys r s (inr i) (inr j) = absurd (not-both y x (s.0 x i) (r.0 y j))

-- what stands behind the first in the one list stands there in the other
behind : (x y : Part) (xs ys : List Part) → x ≡ y → Rising (x ∷ xs) →
    ((p : Part) → In p (x ∷ xs) → In p (y ∷ ys)) → (p : Part) → In p xs → In p ys
unfolding In Rising
behind x y xs ys same r f p i = elim (f p (inr i)) [
  | inl e ↦ let again : StartsBefore x x = subst (StartsBefore x) (e ∙ sym same) (r.0 p i) in absurd (not-both x x again again)
  | inr j ↦ j
]

same-lists : (xs ys : List Part) → Rising xs → Rising ys → ((p : Part) → In p xs → In p ys) →
    ((p : Part) → In p ys → In p xs) → xs ≡ ys
unfolding In Rising
same-lists [] [] r s f g = refl
same-lists [] (y ∷ ys) r s f g = absurd (g y (inl refl))
same-lists (x ∷ xs) [] r s f g = absurd (f x (inl refl))
same-lists (x ∷ xs) (y ∷ ys) r s f g =
    let head : x ≡ y = same-head x y xs ys r s (f x (inl refl)) (g y (inl refl)) in
    let tail : xs ≡ ys = same-lists xs ys r.1 s.1 (behind x y xs ys head r f) (behind y x ys xs (sym head) s g) in
    rw (head, tail) refl

-- ---- one part of a component

one-greatest : (set : NodeSet) (IsOf : NodeNumber → ℕ → Type 0) (m n : ℕ) → IsGreatest set IsOf m →
    IsGreatest set IsOf n → m ≡ n
one-greatest set IsOf m n x y = omega (arith, y.bound x.node m x.holds x.reached, x.bound y.node n y.holds y.reached)

part-of : NodeSet → ℕ → ℕ → Outcome → Part
part-of set rounds changed outcome = record { nodes = set; rounds = rounds; changed = changed; outcome = outcome }

same-part : (p q : Part) → p.nodes ≡ q.nodes → p.rounds ≡ q.rounds → p.changed ≡ q.changed →
    p.outcome ≡ q.outcome → p ≡ q
unfolding part-of
same-part p q a b c d =
    ap (λ (x : NodeSet). part-of x p.rounds p.changed p.outcome) a
    ∙ ap (λ (x : ℕ). part-of q.nodes x p.changed p.outcome) b
    ∙ ap (λ (x : ℕ). part-of q.nodes q.rounds x p.outcome) c
    ∙ ap (λ (x : Outcome). part-of q.nodes q.rounds q.changed x) d

module _ (w : CableWorld) (cabled : IsCabling w.cabling) where
  -- a loop has a node
  pub loop-is : (set core : NodeSet) → AreThere w set → ReportsLoop w set core → IsLoop w set core
  loop-is set core there h = record {
    is_core = h.is;
    node = trailing_zeros w64 core;
    in_core = some_node core some small;
    timed_out = h.timed_out;
    unnamed = h.unnamed;
  }
    where
      small : core < 2 ^ 63
      small = small-set core 63 (λ k inside. let p = (h.is k).0 inside in omega (arith, there k (p.1 k p.3), cabled.few_nodes))

      some : 0 < core
      some = elim (cases_eq core 0) [
        | inl none ↦ absurd (h.some (λ k inside. none_of_zero k (subst (λ (set : NodeSet). Holds set k) none inside)))
        | inr ne ↦ omega (arith, ne)
      ]

  pub one-reported : (set : NodeSet) (o p : Outcome) → AreThere w set → IsReported w set o →
      IsReported w set p → o ≡ p
  one-reported set (reported.Tree a list order) (reported.Tree b other-list other-order) there x y =
      let same : tree a x.tree ≡ tree b y.tree = one-outcome w set (tree a x.tree) (tree b y.tree) x.is y.is in
      let roots : a ≡ b = cc in
      let trees : x.tree ≡ y.tree = cc in
      let lists : list ≡ other-list = x.emitted ∙ ap emits trees ∙ sym y.emitted in
      let orders : order ≡ other-order = x.walked ∙ ap (λ (r : ℕ). numbers w.cabling r x.tree) roots ∙ ap (numbers w.cabling b) trees ∙ sym y.walked in
      rw (roots, lists, orders) refl
  one-reported set (reported.Tree a list order) (reported.Contention c d) there x y = absurd (y.no_tree a x.tree x.is)
  one-reported set (reported.Tree a list order) (reported.Loop core) there x y =
      let same : tree a x.tree ≡ loop core = one-outcome w set (tree a x.tree) (loop core) x.is (loop-is set core there y) in absurd cc
  one-reported set (reported.Contention a b) (reported.Tree c list order) there x y = absurd (x.no_tree c y.tree y.is)
  one-reported set (reported.Contention a b) (reported.Contention c d) there x y =
      let same : contention a b ≡ contention c d = one-outcome w set (contention a b) (contention c d) (x.is, x.no_tree, x.first) (y.is, y.no_tree, y.first) in
      let lower : a ≡ c = cc in
      let higher : b ≡ d = cc in
      rw (lower, higher) refl
  one-reported set (reported.Contention a b) (reported.Loop core) there x y =
      let same : contention a b ≡ loop core = one-outcome w set (contention a b) (loop core) (x.is, x.no_tree, x.first) (loop-is set core there y) in absurd cc
  one-reported set (reported.Loop core) (reported.Tree a list order) there x y =
      let same : loop core ≡ tree a y.tree = one-outcome w set (loop core) (tree a y.tree) (loop-is set core there x) y.is in absurd cc
  one-reported set (reported.Loop core) (reported.Contention a b) there x y =
      let same : loop core ≡ contention a b = one-outcome w set (loop core) (contention a b) (loop-is set core there x) (y.is, y.no_tree, y.first) in absurd cc
  one-reported set (reported.Loop core) (reported.Loop other) there x y =
      let same : loop core ≡ loop other = one-outcome w set (loop core) (loop other) (loop-is set core there x) (loop-is set other there y) in
      let cores : core ≡ other = cc in
      rw cores refl

  within : (p q : Part) (k : NodeNumber) → IsPart w p → IsPart w q → Holds p.nodes k →
      Holds q.nodes k → (i : NodeNumber) → Holds p.nodes i → Holds q.nodes i
  within p q k x y a b = (shared w.cabling x.node k p.nodes cabled x.component a).least q.nodes b y.component.closed

  -- parts that share a node are one
  pub one-part : (p q : Part) (k : NodeNumber) → IsPart w p → IsPart w q → Holds p.nodes k →
      Holds q.nodes k → p ≡ q
  one-part p q k x y a b =
      let nodes : p.nodes ≡ q.nodes = same-set p.nodes q.nodes (λ i. (within p q k x y a b i, within q p k y x b a i)) in
      same-part p q nodes
      (one-greatest q.nodes (Drew w) p.rounds q.rounds (subst (λ (set : NodeSet). IsGreatest set (Drew w) p.rounds) nodes x.rounds) y.rounds)
      (one-greatest q.nodes (LastChanged w) p.changed q.changed (subst (λ (set : NodeSet). IsGreatest set (LastChanged w) p.changed) nodes x.changed) y.changed)
      (one-reported q.nodes p.outcome q.outcome y.there (subst (λ (set : NodeSet). IsReported w set p.outcome) nodes x.outcome) y.outcome)

  -- what is in the one list of parts is in the other
  in-other : (xs ys : List Part) → AreParts w xs → AreParts w ys → (p : Part) → In p xs → In p ys
  in-other xs ys x y p i =
      let at = place xs p i in
      let is : IsPart w p = subst (IsPart w) (at.2 p) (x.each at.0 p at.1) in
      let a = y.whole is.node (is.there is.node is.component.holds) in
      let there : IsPart w a.1 = subst (IsPart w) a.3 (y.each a.0 a.1 a.2) in
      let same : p ≡ a.1 = one-part p a.1 is.node is there is.component.holds a.4 in
      subst (λ (q : Part). In q ys) (a.3 ∙ sym same) (in-at ys a.0 a.1 a.2)

  one-list : (xs ys : List Part) → AreParts w xs → AreParts w ys → xs ≡ ys
  one-list xs ys x y = same-lists xs ys (rising xs x.rising) (rising ys y.rising) (in-other xs ys x y) (in-other ys xs y x)

report-of : ℕ → List Part → Report
report-of turn parts = record { turn = turn; parts = parts }

same-report : (r s : Report) → r.turn ≡ s.turn → r.parts ≡ s.parts → r ≡ s
unfolding report-of
same-report r s a b = ap (λ (n : ℕ). report-of n r.parts) a ∙ ap (report-of s.turn) b

-- so it is over any cabling
pub one-over-cabling : (w : CableWorld) (one other : Report) → IsCabling w.cabling →
    IsReport w one → IsReport w other → one ≡ other
one-over-cabling w one other cabled x y =
    same-report one other (x.turn ∙ sym y.turn) (one-list w cabled one.parts other.parts x.parts y.parts)

pub one-report : (w : CableWorld) (one other : Report) → ∥ IsReached w ∥₁ → IsReport w one →
    IsReport w other → one ≡ other
one-report w one other r x y = one-over-cabling w one other (lawful-now w r).well_formed.cabling x y
