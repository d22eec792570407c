-- Where as many cables join nodes as there are nodes, less one, no part of them is looped: each cable
-- in turn joins one node more.
use Rattle.std.proofs.Common.{◌≡◌, ◌≢◌, ℕ, zero, suc, ◌+◌, ◌^◌, ◌<◌, ◌≤◌, ◌⊎◌, inl, inr, Bool, true, false, List, [], ◌∷◌, length, refl, sym, subst, ap, ◌∙◌, arith}
use Rattle.cabling.specs.declared.cable.End.{End}
use Rattle.cabling.specs.declared.cable.Cable.{Cable}
use Rattle.cabling.specs.NodeSet.{Holds, size_below}
use Rattle.cabling.proofs.Lemmas.{holds_or_not, In, in_or_not}
use Rattle.loop_advice.specs.Cables.{turned, IsSame, Lists, NoneLeadsOut, JoinAll}
use Rattle.loop_advice.proofs.Listed.{lists_turned, same_along}
use Rattle.loop_advice.proofs.Marking.{cable}
use Rattle.loop_advice.proofs.Sizes.{size_within}

-- two cables of the list lead from the node into the part
pub record TwoOf (cables : List Cable) (part x : ℕ) : Type 0 where
  pub one : End
  pub other : End
  pub apart : one ≢ other
  pub at_one : one.node ≡ x
  pub at_other : other.node ≡ x
  pub far_one : End
  pub far_other : End
  pub lists_one : Lists cables (cable one far_one)
  pub lists_other : Lists cables (cable other far_other)
  pub into_one : Holds part far_one.node
  pub into_other : Holds part far_other.node

-- no part that has a node is looped by cables of the list
abbrev pub FormNoLoop : List Cable → Type 0
FormNoLoop cables = (part x : ℕ) → Holds part x → ((y : ℕ) → Holds part y → TwoOf cables part y) → ⊥

-- the cables join the nodes of the list, and form no loop
record Grown (nodes : List ℕ) (used : List Cable) : Type 0 where
  inside : (x : Cable) → Lists used x → In x.a.node nodes
  free : FormNoLoop used

-- the one cable at a new node
at_new : (nodes : List ℕ) (used : List Cable) (y : Cable) (e f : End) → Grown nodes used →
    In y.a.node nodes → (In y.b.node nodes → ⊥) → e.node ≡ y.b.node → Lists (y ∷ used) (cable e f) →
    e ≡ y.b
at_new nodes used y e f g near out at (inl (inl same)) = absurd (out (subst (λ (n : ℕ). In n nodes) (sym (ap (λ (z : Cable). z.a.node) same) ∙ at) near))
at_new nodes used y e f g near out at (inl (inr same)) = ap (λ (z : Cable). z.a) same
at_new nodes used y e f g near out at (inr l) = absurd (out (subst (λ (n : ℕ). In n nodes) at (g.inside (cable e f) l)))

-- a cable between nodes of a part without the new node is an old one
old_one : (used : List Cable) (part : ℕ) (y : Cable) (e f : End) → (Holds part y.b.node → ⊥) →
    Holds part e.node → Holds part f.node → Lists (y ∷ used) (cable e f) → Lists used (cable e f)
old_one used part y e f out he hf (inl (inl same)) = absurd (out (subst (λ (n : ℕ). Holds part n) (ap (λ (z : Cable). z.b.node) same) hf))
old_one used part y e f out he hf (inl (inr same)) = absurd (out (subst (λ (n : ℕ). Holds part n) (ap (λ (z : Cable). z.a.node) same) he))
old_one used part y e f out he hf (inr l) = l

grown_next : (nodes : List ℕ) (used : List Cable) (y : Cable) → Grown nodes used →
    In y.a.node nodes → (In y.b.node nodes → ⊥) → Grown (y.b.node ∷ nodes) (y ∷ used)
grown_next nodes used y g near out = record {
  inside = λ x l. elim l [
    | inl s ↦ elim s [
      | inl e ↦ inr (subst (λ (z : Cable). In z.a.node nodes) (sym e) near)
      | inr e ↦ inl (ap (λ (z : Cable). z.a.node) e)
    ]
    | inr m ↦ inr (g.inside x m)
  ];
  free = λ part x h looped. elim (holds_or_not part y.b.node) [
    | inl new ↦
        let two = looped y.b.node new in
        two.apart (at_new nodes used y two.one two.far_one g near out two.at_one two.lists_one ∙ sym (at_new nodes used y two.other two.far_other g near out two.at_other two.lists_other))
    | inr away ↦ g.free part x h (λ z hz.
        let two = looped z hz in
        record {
          one = two.one;
          other = two.other;
          apart = two.apart;
          at_one = two.at_one;
          at_other = two.at_other;
          far_one = two.far_one;
          far_other = two.far_other;
          lists_one = old_one used part y two.one two.far_one away (subst (λ (n : ℕ). Holds part n) (sym two.at_one) hz) two.into_one two.lists_one;
          lists_other = old_one used part y two.other two.far_other away (subst (λ (n : ℕ). Holds part n) (sym two.at_other) hz) two.into_other two.lists_other;
          into_one = two.into_one;
          into_other = two.into_other;
        })
  ];
}

-- ---- a cable that leads out of the nodes so far, if there is one

has : List ℕ → ℕ → Bool
has nodes x = elim (in_or_not x nodes) [ inl i ↦ true | inr out ↦ false ]

has-in : (nodes : List ℕ) (x : ℕ) → In x nodes → has nodes x ≡ true
unfolding has
has-in nodes x i = elim (in_or_not x nodes) as (λ d. elim d as (λ z. Bool) [ inl a ↦ true | inr b ↦ false ] ≡ true) [ inl a ↦ refl | inr out ↦ absurd (out i) ]

has-out : (nodes : List ℕ) (x : ℕ) → (In x nodes → ⊥) → has nodes x ≡ false
unfolding has
has-out nodes x o = elim (in_or_not x nodes) as (λ d. elim d as (λ z. Bool) [ inl a ↦ true | inr b ↦ false ] ≡ false) [ inl a ↦ absurd (o a) | inr out ↦ refl ]

in-has : (nodes : List ℕ) (x : ℕ) → has nodes x ≡ true → In x nodes
in-has nodes x e = elim (in_or_not x nodes) [ inl i ↦ i | inr out ↦ let no : has nodes x ≡ false = has-out nodes x out in absurd cc ]

record Crossing (nodes : List ℕ) (cables : List Cable) : Type 0 where
  found : Cable
  rest : List Cable
  near : In found.a.node nodes
  out : In found.b.node nodes → ⊥
  from : (z : Cable) → Lists cables z → IsSame z found ⊎ Lists rest z
  one_less : length cables ≡ suc (length rest)

crosses : (nodes : List ℕ) (x : Cable) (xs : List Cable) → In x.a.node nodes →
    (In x.b.node nodes → ⊥) → Crossing nodes (x ∷ xs)
crosses nodes x xs i o = record { found = x; rest = xs; near = i; out = o; from = λ z l. l; one_less = refl }

crosses_back : (nodes : List ℕ) (x : Cable) (xs : List Cable) → In x.b.node nodes →
    (In x.a.node nodes → ⊥) → Crossing nodes (x ∷ xs)
crosses_back nodes x xs i o = record {
  found = turned x;
  rest = xs;
  near = i;
  out = o;
  from = λ z l. elim l [ inl s ↦ inl (same_along z x (turned x) s (inr refl)) | inr m ↦ inr m ];
  one_less = refl;
}

later : (nodes : List ℕ) (x : Cable) (xs : List Cable) → Crossing nodes xs → Crossing nodes (x ∷ xs)
later nodes x xs k = record {
  found = k.found;
  rest = x ∷ k.rest;
  near = k.near;
  out = k.out;
  from = λ z l. elim l [
    | inl s ↦ inr (inl s)
    | inr m ↦ elim (k.from z m) [ inl s ↦ inl s | inr r ↦ inr (inr r) ]
  ];
  one_less = ap (λ (n : ℕ). suc n) k.one_less;
}

stays : (nodes : List ℕ) (x : Cable) (xs : List Cable) → has nodes x.a.node ≡ has nodes x.b.node →
    NoneLeadsOut xs (has nodes) → NoneLeadsOut (x ∷ xs) (has nodes)
stays nodes x xs e none z (inl (inl s)) = ap (λ (y : Cable). has nodes y.a.node) s ∙ e ∙ sym (ap (λ (y : Cable). has nodes y.b.node) s)
stays nodes x xs e none z (inl (inr s)) = ap (λ (y : Cable). has nodes y.a.node) s ∙ sym e ∙ sym (ap (λ (y : Cable). has nodes y.b.node) s)
stays nodes x xs e none z (inr l) = none z l

crossing : (nodes : List ℕ) (cables : List Cable) →
    Crossing nodes cables ⊎ NoneLeadsOut cables (has nodes)
crossing nodes [] = inr (λ x l. absurd l)
crossing nodes (x ∷ xs) = elim (in_or_not x.a.node nodes) [
  | inl a ↦ elim (in_or_not x.b.node nodes) [
    | inr out ↦ inl (crosses nodes x xs a out)
    | inl b ↦ elim (crossing nodes xs) [
      | inl k ↦ inl (later nodes x xs k)
      | inr none ↦ inr (stays nodes x xs (has-in nodes x.a.node a ∙ sym (has-in nodes x.b.node b)) none)
    ]
  ]
  | inr out_a ↦ elim (in_or_not x.b.node nodes) [
    | inl b ↦ inl (crosses_back nodes x xs b out_a)
    | inr out_b ↦ elim (crossing nodes xs) [
      | inl k ↦ inl (later nodes x xs k)
      | inr none ↦ inr (stays nodes x xs (has-out nodes x.a.node out_a ∙ sym (has-out nodes x.b.node out_b)) none)
    ]
  ]
]

-- ---- all cables are used

record Way (kept : List Cable) (set node n : ℕ) : Type 0 where
  ends : n ≡ 63
  small : set < 2 ^ 63
  join : JoinAll kept node set
  count : length kept + 1 ≡ size_below set n

record On (kept : List Cable) (node : ℕ) (nodes : List ℕ) (used rest : List Cable) : Type 0 where
  grown : Grown nodes used
  has_node : In node nodes
  each : (z : Cable) → Lists kept z → Lists used z ⊎ Lists rest z
  lengths : length nodes ≡ length used + 1
  total : length used + length rest ≡ length kept

fewer_loops : (kept used : List Cable) → ((z : Cable) → Lists kept z → Lists used z) →
    FormNoLoop used → FormNoLoop kept
fewer_loops kept used all free part x h looped = free part x h (λ z hz.
    let two = looped z hz in
    record {
      one = two.one;
      other = two.other;
      apart = two.apart;
      at_one = two.at_one;
      at_other = two.at_other;
      far_one = two.far_one;
      far_other = two.far_other;
      lists_one = all (cable two.one two.far_one) two.lists_one;
      lists_other = all (cable two.other two.far_other) two.lists_other;
      into_one = two.into_one;
      into_other = two.into_other;
    })

no_rest : (rest : List Cable) (z : Cable) → length rest ≡ 0 → Lists rest z → ⊥
no_rest [] z e l = l
no_rest (x ∷ xs) z e l = omega (arith, e)

all_used : (kept : List Cable) (node : ℕ) (nodes : List ℕ) (used rest : List Cable) →
    On kept node nodes used rest → length rest ≡ 0 → FormNoLoop kept
all_used kept node nodes used rest o e = fewer_loops kept used (λ z l. elim (o.each z l) [ inl u ↦ u | inr r ↦ absurd (no_rest rest z e r) ]) o.grown.free

none_left : (kept : List Cable) (set node n : ℕ) (nodes : List ℕ) (used rest : List Cable) →
    Way kept set node n → On kept node nodes used rest → NoneLeadsOut rest (has nodes) →
    length rest ≡ 0
none_left kept set node n nodes used rest w o none =
    let stay : NoneLeadsOut kept (has nodes) = λ z l. elim (o.each z l) [
      | inl u ↦ has-in nodes z.a.node (o.grown.inside z u) ∙ sym (has-in nodes z.b.node (o.grown.inside (turned z) (lists_turned used z u)))
      | inr r ↦ none z r
    ] in
    let all : (x : ℕ) → Holds set x → In x nodes = λ x h. in-has nodes x (sym (w.join x h (has nodes) stay) ∙ has-in nodes node o.has_node) in
    omega (arith, size_within nodes set n w.ends w.small all, w.count, o.lengths, o.total)

on_next : (kept : List Cable) (node : ℕ) (nodes : List ℕ) (used rest : List Cable) →
    On kept node nodes used rest → (k : Crossing nodes rest) →
    On kept node (k.found.b.node ∷ nodes) (k.found ∷ used) k.rest
on_next kept node nodes used rest o k = record {
  grown = grown_next nodes used k.found o.grown k.near k.out;
  has_node = inr o.has_node;
  each = λ z l. elim (o.each z l) [
    | inl u ↦ inl (inr u)
    | inr r ↦ elim (k.from z r) [ inl s ↦ inl (inl s) | inr q ↦ inr q ]
  ];
  lengths = omega (arith, o.lengths);
  total = omega (arith, o.total, k.one_less);
}

grow : (fuel : ℕ) (kept : List Cable) (set node n : ℕ) (nodes : List ℕ) (used rest : List Cable) →
    length rest ≤ fuel → Way kept set node n → On kept node nodes used rest → FormNoLoop kept
grow zero kept set node n nodes used rest h w o = all_used kept node nodes used rest o (omega (arith, h))
grow (suc fuel) kept set node n nodes used rest h w o = elim (crossing nodes rest) [
  | inl k ↦ grow fuel kept set node n (k.found.b.node ∷ nodes) (k.found ∷ used) k.rest (omega (arith, h, k.one_less)) w (on_next kept node nodes used rest o k)
  | inr none ↦ all_used kept node nodes used rest o (none_left kept set node n nodes used rest w o none)
]

-- as many cables as nodes, less one, that join all nodes form no loop
pub no_loop : (kept : List Cable) (set node n : ℕ) → n ≡ 63 → set < 2 ^ 63 → JoinAll kept node set →
    length kept + 1 ≡ size_below set n → FormNoLoop kept
no_loop kept set node n e small join count = grow (length kept) kept set node n (node ∷ []) [] kept (omega arith) (record { ends = e; small = small; join = join; count = count })
    (record {
      grown = record { inside = λ x l. absurd l; free = λ part x h looped. (looped x h).lists_one };
      has_node = inl refl;
      each = λ z l. inr l;
      lengths = refl;
      total = omega arith;
    })
