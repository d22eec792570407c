-- What groups say of the cables that joined them.
use Rattle.std.proofs.Common.{◌≡◌, ◌≢◌, ℕ, ◌<◌, inl, inr, Bool, true, false, eqb, cond, List, [], ◌∷◌, ◌++◌, refl, sym, subst, ap, ◌∙◌, arith}
use Rattle.std.proofs.lemmas.Bool.{cases_eq, ne_eqb}
use Rattle.std.proofs.lemmas.Bool.Decides.{nat_tests}
use Rattle.cabling.specs.declared.cable.Cable.{Cable}
use Rattle.loop_advice.specs.Cables.{Lists, NoneLeadsOut, AreJoined}
use Rattle.loop_advice.specs.codings.Groups.{group, merged}
use Rattle.loop_advice.specs.declared.groups.Groups.{Groups}
use Rattle.loop_advice.proofs.Listed.{lists_left, lists_right, lists_last}

-- two nodes are in one group where the cables join them
pub record Grouped (g : Groups) (done : List Cable) : Type 0 where
  pub closed : (x : Cable) → Lists done x → group g x.a.node ≡ group g x.b.node
  pub joined : (a b : ℕ) → a < 63 → b < 63 → group g a ≡ group g b → AreJoined done a b

pub grouped_first : (g : Groups) → ((node : ℕ) → node < 63 → group g node ≡ node) → Grouped g []
grouped_first g own = record {
  closed = λ x l. absurd l;
  joined = λ a b p q e test none. ap test (sym (own a p) ∙ e ∙ own b q);
}

pub merged-same : (from into number : ℕ) → number ≡ from → merged from into number ≡ into
merged-same from into number e = go (eqb number from) (grind (arith, nat_tests))
  where
    go : (b : Bool) → b ≡ true → cond b into number ≡ into
    go true h = refl
    go false h = absurd cc

pub merged-other : (from into number : ℕ) → number ≢ from → merged from into number ≡ number
merged-other from into number ne = go (eqb number from) (ne_eqb number from ne)
  where
    go : (b : Bool) → b ≡ false → cond b into number ≡ number
    go true h = absurd cc
    go false h = refl

-- one cable more joins two groups
pub grouped_next : (g after : Groups) (done : List Cable) (x : Cable) →
    x.a.node < 63 → x.b.node < 63 → Grouped g done → ((z : Cable) → Lists done z → z.a.node < 63) → ((z : Cable) → Lists done z → z.b.node < 63) →
    ((node : ℕ) → node < 63 → group after node ≡ merged (group g x.b.node) (group g x.a.node) (group g node)) →
    Grouped after (done ++ x ∷ [])
grouped_next g after done x small_a small_b h smalls_a smalls_b is =
    let ga : ℕ = group g x.a.node in
    let gb : ℕ = group g x.b.node in
    let at_a : group after x.a.node ≡ group g x.a.node = is x.a.node small_a ∙ (elim (cases_eq (group g x.a.node) (group g x.b.node)) [
      | inl e ↦ merged-same (group g x.b.node) (group g x.a.node) (group g x.a.node) e
      | inr ne ↦ merged-other (group g x.b.node) (group g x.a.node) (group g x.a.node) ne
    ]) in
    let at_b : group after x.b.node ≡ group g x.a.node = is x.b.node small_b ∙ merged-same (group g x.b.node) (group g x.a.node) (group g x.b.node) refl in
    record {
      closed = λ z l. elim (lists_last done x z l) [
        | inl before ↦ is z.a.node (smalls_a z before) ∙ ap (merged (group g x.b.node) (group g x.a.node)) (h.closed z before) ∙ sym (is z.b.node (smalls_b z before))
        | inr s ↦ elim s [
          | inl e ↦ subst (λ (y : Cable). group after y.a.node ≡ group after y.b.node) (sym e) (at_a ∙ sym at_b)
          | inr e ↦ subst (λ (y : Cable). group after y.a.node ≡ group after y.b.node) (sym e) (at_b ∙ sym at_a)
        ]
      ];
      joined = λ a b p q e test none.
          let before : NoneLeadsOut done test = λ z l. none z (lists_left done (x ∷ []) z l) in
          let across : test x.a.node ≡ test x.b.node = none x (lists_right done (x ∷ []) x (inl (inl refl))) in
          let now : merged (group g x.b.node) (group g x.a.node) (group g a) ≡ merged (group g x.b.node) (group g x.a.node) (group g b) = sym (is a p) ∙ e ∙ is b q in
          elim (cases_eq (group g a) (group g x.b.node)) [
            | inl a_in ↦ elim (cases_eq (group g b) (group g x.b.node)) [
              | inl b_in ↦ h.joined a b p q (a_in ∙ sym b_in) test before
              | inr b_out ↦
                  let other : group g x.a.node ≡ group g b = sym (merged-same (group g x.b.node) (group g x.a.node) (group g a) a_in) ∙ now ∙ merged-other (group g x.b.node) (group g x.a.node) (group g b) b_out in
                  h.joined a x.b.node p small_b a_in test before ∙ sym across ∙ h.joined x.a.node b small_a q other test before
            ]
            | inr a_out ↦ elim (cases_eq (group g b) (group g x.b.node)) [
              | inl b_in ↦
                  let other : group g a ≡ group g x.a.node = sym (merged-other (group g x.b.node) (group g x.a.node) (group g a) a_out) ∙ now ∙ merged-same (group g x.b.node) (group g x.a.node) (group g b) b_in in
                  h.joined a x.a.node p small_a other test before ∙ across ∙ h.joined x.b.node b small_b q (sym b_in) test before
              | inr b_out ↦
                  let other : group g a ≡ group g b = sym (merged-other (group g x.b.node) (group g x.a.node) (group g a) a_out) ∙ now ∙ merged-other (group g x.b.node) (group g x.a.node) (group g b) b_out in
                  h.joined a b p q other test before
            ]
          ];
    }

-- one cable more within a group
pub grouped_same : (g : Groups) (done : List Cable) (x : Cable) → Grouped g done →
    group g x.a.node ≡ group g x.b.node → Grouped g (done ++ x ∷ [])
grouped_same g done x h same = record {
  closed = λ z l. elim (lists_last done x z l) [
    | inl before ↦ h.closed z before
    | inr s ↦ elim s [
      | inl e ↦ subst (λ (y : Cable). group g y.a.node ≡ group g y.b.node) (sym e) same
      | inr e ↦ subst (λ (y : Cable). group g y.a.node ≡ group g y.b.node) (sym e) (sym same)
    ]
  ];
  joined = λ a b p q e test none. h.joined a b p q e test (λ z l. none z (lists_left done (x ∷ []) z l));
}

-- a node outside the group isn't joined
pub not_joined : (g : Groups) (done : List Cable) (a b : ℕ) → Grouped g done →
    group g a ≢ group g b → AreJoined done a b → ⊥
not_joined g done a b h ne joined =
    let test : ℕ → Bool = λ node. eqb (group g node) (group g a) in
    let none : NoneLeadsOut done (λ node. eqb (group g node) (group g a)) = λ x l. ap (λ (k : ℕ). eqb k (group g a)) (h.closed x l) in
    let same : eqb (group g a) (group g a) ≡ eqb (group g b) (group g a) = joined (λ node. eqb (group g node) (group g a)) none in
    let yes : eqb (group g a) (group g a) ≡ true = grind (arith, nat_tests) in
    let no : eqb (group g b) (group g a) ≡ false = ne_eqb (group g b) (group g a) (λ e. ne (sym e)) in
    absurd cc
