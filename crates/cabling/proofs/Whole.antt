-- A component is a whole: its nodes share it, and a seen tree has each of them.
use Rattle.std.proofs.Common.{◌≡◌, ◌≢◌, ℕ, zero, suc, ◌+◌, ◌^◌, ◌<◌, inl, inr, Option, Some, None, List, [], ◌∷◌, length, get_or, refl, sym, subst, ap, ◌∙◌, arith, bit_and, bit_or, bit_xor}
use Rattle.std.specs.Int.{bit_at}
use Rattle.std.proofs.lemmas.Bool.{cases_eq}
use Rattle.std.proofs.lemmas.Nat.Bits.{bit_at-lt, bit_at_and, bit_at_or, bit_at_xor, bit_at-pow_same, bit_at-pow_other}
use Rattle.topology_stack.specs.Tree.{Label, Tree, branch, Slots, unplugged, up, down}
use Rattle.cabling.specs.declared.cable.End.{End}
use Rattle.cabling.specs.Wiring.{Wiring, ports_of, IsCabling}
use Rattle.cabling.specs.NodeSet.{Holds, IsEmpty}
use Rattle.cabling.specs.Component.{IsClosed, IsComponent}
use Rattle.cabling.specs.Looped.{HasTwo, IsLooped, IsCore}
use Rattle.cabling.specs.Sees.{Sees, SeesFrom, numbers, numbers_below}
use Rattle.cabling.specs.Walk.{IsWalk, times}
use Rattle.cabling.proofs.Bits.{clear_bit, none_of_zero}
use Rattle.cabling.proofs.Cascade.{holds_or_not}
use Rattle.cabling.proofs.Seen.{from_or_not}
use Rattle.cabling.proofs.Once.{In, in_append, closed_tree, in_itself}
use Rattle.cabling.proofs.Small.{Loopless, tree_within, tree_once}
use Rattle.cabling.proofs.Counting.{in_or_not, times_in, times_out}
use Rattle.cabling.proofs.Waiting.{plain}

-- ---- nodes share their component

-- what is in the first and not in the second
abbrev without : ℕ → ℕ → ℕ
without set other = bit_xor set (bit_and set other)

without-has : (set other x : ℕ) → Holds set x → (Holds other x → ⊥) → Holds (without set other) x
without-has set other x h out =
    let no_bit : bit_at other x ≡ 0 = clear_bit other x out in
    let both : bit_at (bit_and set other) x ≡ 0 = bit_at_and set other x ∙ (rw no_bit (omega arith)) in
    bit_at_xor set (bit_and set other) x ∙ rw (h, both) refl

without-parts : (set other x : ℕ) → Holds (without set other) x → Holds set x × (Holds other x → ⊥)
without-parts set other x h = elim (holds_or_not set x) [
  | inr out ↦
      let no_bit : bit_at set x ≡ 0 = clear_bit set x out in
      let both : bit_at (bit_and set other) x ≡ 0 = bit_at_and set other x ∙ rw no_bit (omega arith) in
      let zero_bit : bit_at (without set other) x ≡ 0 = bit_at_xor set (bit_and set other) x ∙ rw (no_bit, both) refl in
      absurd (omega (arith, h, zero_bit))
  | inl is ↦ (
    is,
    λ o.
        let both : bit_at (bit_and set other) x ≡ 1 = bit_at_and set other x ∙ rw (is, o) refl in
        let zero_bit : bit_at (without set other) x ≡ 0 = bit_at_xor set (bit_and set other) x ∙ rw (is, both) refl in
        omega (arith, h, zero_bit),
  )
]

-- a set that a closed set leaves over is closed too
without-closed : (c : Wiring) (set other : ℕ) → IsCabling c → IsClosed c set → IsClosed c other →
    IsClosed c (without set other)
without-closed c set other is a b x y e h =
    let p = without-parts set other x.node h in
    without-has set other y.node (a x y e p.0) (λ o. p.1 (b y x (is.both_ways x y e) o))

pub shared : (c : Wiring) (a b set : ℕ) → IsCabling c → IsComponent c a set → Holds set b →
    IsComponent c b set
shared c a b set is k h = record {
  holds = h;
  closed = k.closed;
  least = λ other has closed x in_set. elim (holds_or_not other a) [
    | inl there ↦ k.least other there closed x in_set
    | inr out ↦ absurd ((without-parts set other b (k.least (without set other) (without-has set other a k.holds out) (without-closed c set other is k.closed closed) b h)).1 has)
  ];
}

-- ---- a tree is seen only where no part is looped

some_same : (a b : ℕ) → Some a ≡ Some b → a ≡ b
some_same a b e = cc

mutual
  no_part : (c : Wiring) (label : ℕ → Label) (part x : ℕ) (from : Option ℕ) (t : Tree) →
      IsLooped c part → Sees c label x from t → Holds part x → ⊥
  no_part c label part x from (branch a s) looped h has =
      let two : HasTwo c part x = looped x has in
      elim (from_or_not from two.low) [
        | inr ne ↦ no_port c label part from 0 (ports_of c x) s looped h.2 two.low two.low two.low_leads.0 (omega arith) two.low_leads.1 ne two.low_leads.2
        | inl is ↦ no_port c label part from 0 (ports_of c x) s looped h.2 two.high two.high two.high_leads.0 (omega arith) two.high_leads.1 (λ also. let same : two.low ≡ two.high = some_same two.low two.high (sym is ∙ also) in omega (arith, same, two.apart)) two.high_leads.2
      ]

  no_port : (c : Wiring) (label : ℕ → Label) (part : ℕ) (from : Option ℕ) (p : ℕ) (row : List (Option End)) (s : Slots) →
      IsLooped c part → SeesFrom c label from p row s → (i q : ℕ) (e : End) → q ≡ p + i →
      get_or row i None ≡ Some e → from ≢ Some q → Holds part e.node → ⊥
  no_port c label part from p [] s looped h i q e at j ne has = absurd cc
  no_port c label part from p (None ∷ row) (unplugged s) looped h zero q e at j ne has = absurd cc
  no_port c label part from p (None ∷ row) (unplugged s) looped h (suc i) q e at j ne has = no_port c label part from (p + 1) row s looped h i q e (omega arith) j ne has
  no_port c label part from p (Some f ∷ row) (up s) looped h zero q e at j ne has = let same : p ≡ q = omega arith in absurd (ne (h.0 ∙ ap (λ (n : ℕ). Some n) same))
  no_port c label part from p (Some f ∷ row) (up s) looped h (suc i) q e at j ne has = no_port c label part from (p + 1) row s looped h.1 i q e (omega arith) j ne has
  no_port c label part from p (Some f ∷ row) (down t s) looped h zero q e at j ne has = let same : e ≡ f = cc in no_part c label part f.node (Some f.port) t looped h.1 (subst (λ (y : End). Holds part y.node) same has)
  no_port c label part from p (Some f ∷ row) (down t s) looped h (suc i) q e at j ne has = no_port c label part from (p + 1) row s looped h.2 i q e (omega arith) j ne has
  no_port c label part from p row s looped h i q e at j ne has = absurd h

-- nor is any node of the tree in a looped part
mutual
  none_looped : (c : Wiring) (label : ℕ → Label) (part x : ℕ) (from : Option ℕ) (t : Tree) →
      IsLooped c part → Sees c label x from t → (z : ℕ) → In z (numbers c x t) → Holds part z → ⊥
  none_looped c label part x from (branch a s) looped h z i has = elim (in_append z (numbers_below c (ports_of c x) s) (x ∷ []) i) [
    | inl below ↦ none_below c label part from 0 (ports_of c x) s looped h.2 z below has
    | inr itself ↦ elim itself [
      | inl e ↦ no_part c label part x from (branch a s) looped h (subst (λ (n : ℕ). Holds part n) e has)
      | inr none ↦ none
    ]
  ]

  none_below : (c : Wiring) (label : ℕ → Label) (part : ℕ) (from : Option ℕ) (p : ℕ) (row : List (Option End)) (s : Slots) →
      IsLooped c part → SeesFrom c label from p row s → (z : ℕ) → In z (numbers_below c row s) →
      Holds part z → ⊥
  none_below c label part from p [] s looped h z i has = i
  none_below c label part from p (None ∷ row) (unplugged s) looped h z i has = none_below c label part from (p + 1) row s looped h z i has
  none_below c label part from p (Some f ∷ row) (up s) looped h z i has = none_below c label part from (p + 1) row s looped h.1 z i has
  none_below c label part from p (Some f ∷ row) (down t s) looped h z i has = elim (in_append z (numbers c f.node t) (numbers_below c row s) i) [
    | inl child ↦ none_looped c label part f.node (Some f.port) t looped h.1 z child has
    | inr rest ↦ none_below c label part from (p + 1) row s looped h.2 z rest has
  ]
  none_below c label part from p row s looped h z i has = absurd h

-- so the core of a set of such nodes is empty
pub seen_core : (c : Wiring) (label : ℕ → Label) (root set : ℕ) (t : Tree) →
    Sees c label root None t → ((x : ℕ) → Holds set x → In x (numbers c root t)) → IsCore c set 0
seen_core c label root set t h all x = (λ none. absurd (none_of_zero x none), λ p. absurd (none_looped c label p.0 root None t p.2 h x (all x (p.1 x p.3)) p.3))

-- ---- a seen tree has each node of the component

-- the set of the numbers of a list
abbrev pub set_of : List ℕ → ℕ
set_of [] = 0
set_of (x ∷ xs) = bit_or (set_of xs) (2 ^ x)

in_set : (xs : List ℕ) (x : ℕ) → In x xs → Holds (set_of xs) x
in_set [] x i = absurd i
in_set (y ∷ ys) x (inl e) = let one : bit_at (2 ^ y) x ≡ 1 = subst (λ (n : ℕ). bit_at (2 ^ y) n ≡ 1) (sym e) (bit_at-pow_same y) in omega (arith, bit_at_or (set_of ys) (2 ^ y) x, bit_at-lt (set_of ys) x, one)
in_set (y ∷ ys) x (inr i) = omega (arith, bit_at_or (set_of ys) (2 ^ y) x, bit_at-lt (2 ^ y) x, in_set ys x i)

pub from_set : (xs : List ℕ) (x : ℕ) → Holds (set_of xs) x → In x xs
from_set [] x h = absurd (none_of_zero x h)
from_set (y ∷ ys) x h = elim (cases_eq x y) [
  | inl e ↦ inl e
  | inr ne ↦ inr (from_set ys x (omega (arith, bit_at_or (set_of ys) (2 ^ y) x, bit_at-pow_other y x ne, h)))
]

pub tree_has : (c : Wiring) (label : ℕ → Label) (root set : ℕ) (t : Tree) → IsCabling c →
    IsComponent c root set → Sees c label root None t → (x : ℕ) → Holds set x →
    In x (numbers c root t)
tree_has c label root set t is k h x has =
    from_set (numbers c root t) x (k.least (set_of (numbers c root t)) (in_set (numbers c root t) root (in_itself c root t))
    (λ a b e in_a. elim (closed_tree c label root None t is h a.node a.port b (from_set (numbers c root t) a.node in_a) e) [
      | inl found ↦ in_set (numbers c root t) b.node found
      | inr from ↦ absurd cc
    ])
    x has)

pub seen_no_loop : (c : Wiring) (label : ℕ → Label) (root set core : ℕ) (t : Tree) → IsCabling c →
    IsComponent c root set → IsCore c set core → Sees c label root None t → IsEmpty core
seen_no_loop c label root set core t is k core_is h x in_core =
    let p = (core_is x).0 in_core in
    none_looped c label p.0 root None t p.2 h x (tree_has c label root set t is k h x (p.1 x p.3)) p.3

pub seen_loopless : (c : Wiring) (label : ℕ → Label) (root set : ℕ) (t : Tree) → IsCabling c →
    root < length c → set < 2 ^ 63 → IsComponent c root set → Sees c label root None t →
    Loopless c root set
seen_loopless c label root set t is there small k h = record {
  cabling = is;
  there = there;
  component = k;
  small = small;
  no_loop = λ part x within looped has. none_looped c label part root None t looped h x (tree_has c label root set t is k h x (within x has)) has;
}

-- each node of the component stands once in the walk, and no other
pub walk_times : (c : Wiring) (root set : ℕ) (walk : List ℕ) → IsCabling c → root < length c →
    set < 2 ^ 63 → IsComponent c root set → IsWalk c root walk → (x : ℕ) →
    times x walk ≡ bit_at set x
walk_times c root set walk is there small k w x =
    let o = w plain in
    let l : Loopless c root set = seen_loopless c plain root set o.tree is there small k o.seen in
    ap (λ (ns : List ℕ). times x ns) o.order ∙ (elim (in_or_not x (numbers c root o.tree)) [
      | inl i ↦ times_in x (numbers c root o.tree) (tree_once c plain root set o.tree l o.seen) i ∙ sym (tree_within c plain root set o.tree l o.seen x i)
      | inr out ↦ times_out x (numbers c root o.tree) out ∙ sym (clear_bit set x (λ h. out (tree_has c plain root set o.tree is k o.seen x h)))
    ])
