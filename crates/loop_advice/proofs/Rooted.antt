-- Each group has one node whose number is the group's: its root. A cable between two groups takes one
-- root away.
use Rattle.std.proofs.Common.{◌≡◌, ◌≢◌, ℕ, zero, suc, ◌+◌, ◌^◌, ◌<◌, ◌≤◌, inl, inr, ◌↔◌, List, [], ◌∷◌, ◌++◌, length, length-append, refl, sym, subst, ap, ◌∙◌, arith}
use Rattle.std.proofs.lemmas.Bool.{cases_eq}
use Rattle.cabling.specs.declared.cable.Cable.{Cable}
use Rattle.cabling.specs.Wiring.{Wiring}
use Rattle.cabling.specs.NodeSet.{Holds, size_below}
use Rattle.cabling.specs.Component.{IsClosed, IsComponent}
use Rattle.cabling.proofs.Lemmas.{below, holds_or_not, Less, less_by, not_gone}
use Rattle.loop_advice.specs.Cables.{HoldsEachOnce}
use Rattle.loop_advice.specs.codings.Groups.{group, merged}
use Rattle.loop_advice.specs.declared.groups.Groups.{Groups}
use Rattle.loop_advice.proofs.Grouping.{Grouped, merged-same, merged-other}
use Rattle.loop_advice.proofs.Marking.{cable}
use Rattle.loop_advice.proofs.Sizes.{size_less, size_within, size_some}

-- the groups of the set, as many as it has nodes but for one a kept cable
pub record Rooted (set n : ℕ) (g : Groups) (kept : List Cable) : Type 0 where
  pub own : (x : ℕ) → x < 63 → group g (group g x) ≡ group g x
  pub few : (x : ℕ) → x < 63 → group g x < 63
  pub inside : (x : ℕ) → Holds set x → Holds set (group g x)
  pub roots : ℕ
  pub small : roots < 2 ^ 63
  pub are : (x : ℕ) → Holds roots x ↔ (Holds set x × (group g x ≡ x))
  pub count : size_below roots n + length kept ≡ size_below set n

pub rooted_first : (set n : ℕ) (g : Groups) → set < 2 ^ 63 → ((x : ℕ) → x < 63 → group g x ≡ x) →
    Rooted set n g []
rooted_first set n g small is = record {
  own = λ x h. ap (λ (y : ℕ). group g y) (is x h);
  few = λ x h. subst (λ (y : ℕ). y < 63) (sym (is x h)) h;
  inside = λ x h. subst (λ (y : ℕ). Holds set y) (sym (is x (below set x small h))) h;
  roots = set;
  small = small;
  are = λ x. ((λ h. (h, is x (below set x small h))), (λ h. h.0));
  count = omega arith;
}

-- two groups become one
record Joining (g after : Groups) (a b : ℕ) : Type 0 where
  near : a < 63
  other : b < 63
  apart : group g a ≢ group g b
  is : (x : ℕ) → x < 63 → group after x ≡ merged (group g b) (group g a) (group g x)

-- a node of the group that was taken in, and any other node
taken : (g after : Groups) (a b x : ℕ) → Joining g after a b → x < 63 → group g x ≡ group g b →
    group after x ≡ group g a
taken g after a b x j h e = j.is x h ∙ merged-same (group g b) (group g a) (group g x) e

stays : (g after : Groups) (a b x : ℕ) → Joining g after a b → x < 63 → group g x ≢ group g b →
    group after x ≡ group g x
stays g after a b x j h ne = j.is x h ∙ merged-other (group g b) (group g a) (group g x) ne

-- what holds of the group of the first node and of the group that a node had holds of its group now
of_either : (P : ℕ → Type 0) (g after : Groups) (a b x : ℕ) → Joining g after a b → x < 63 →
    P (group g a) → P (group g x) → P (group after x)
of_either P g after a b x j h first same = elim (cases_eq (group g x) (group g b)) [
  | inl e ↦ subst P (sym (taken g after a b x j h e)) first
  | inr ne ↦ subst P (sym (stays g after a b x j h ne)) same
]

own_next : (set n : ℕ) (g after : Groups) (kept : List Cable) (a b x : ℕ) → Rooted set n g kept →
    Joining g after a b → x < 63 → group after (group after x) ≡ group after x
own_next set n g after kept a b x r j h = elim (cases_eq (group g x) (group g b)) [
  | inl e ↦
      let now : group after x ≡ group g a = taken g after a b x j h e in
      let root : group g (group g a) ≡ group g a = r.own a j.near in
      let still : group after (group g a) ≡ group g (group g a) = stays g after a b (group g a) j (r.few a j.near) (λ same. j.apart (sym root ∙ same)) in
      ap (λ (y : ℕ). group after y) now ∙ still ∙ root ∙ sym now
  | inr ne ↦
      let now : group after x ≡ group g x = stays g after a b x j h ne in
      let root : group g (group g x) ≡ group g x = r.own x h in
      let still : group after (group g x) ≡ group g (group g x) = stays g after a b (group g x) j (r.few x h) (λ same. ne (sym root ∙ same)) in
      ap (λ (y : ℕ). group after y) now ∙ still ∙ root ∙ sym now
]

-- a root is still one, if it isn't the one that was taken in
root_still : (set n : ℕ) (g after : Groups) (kept : List Cable) (a b x : ℕ) → Rooted set n g kept →
    Joining g after a b → x < 63 → group g x ≡ x → x ≢ group g b → group after x ≡ x
root_still set n g after kept a b x r j h e ne = stays g after a b x j h (λ same. ne (sym e ∙ same)) ∙ e

-- and no other node becomes one
root_before : (set n : ℕ) (g after : Groups) (kept : List Cable) (a b x : ℕ) → Rooted set n g kept →
    Joining g after a b → x < 63 → group after x ≡ x → (group g x ≡ x) × (x ≢ group g b)
root_before set n g after kept a b x r j h e = elim (cases_eq (group g x) (group g b)) [
  | inl same ↦
      let is : group g a ≡ x = sym (taken g after a b x j h same) ∙ e in
      let root : group g x ≡ x = ap (λ (y : ℕ). group g y) (sym is) ∙ r.own a j.near ∙ is in
      absurd (j.apart (is ∙ sym root ∙ same))
  | inr ne ↦
      let root : group g x ≡ x = sym (stays g after a b x j h ne) ∙ e in
      (root, λ same. ne (root ∙ same))
]

-- a kept cable takes one root away
pub rooted_next : (set n : ℕ) (g after : Groups) (kept : List Cable) (x : Cable) → n ≡ 63 →
    set < 2 ^ 63 → Holds set x.a.node → Holds set x.b.node →
    group g x.a.node ≢ group g x.b.node →
    ((node : ℕ) → node < 63 → group after node ≡ merged (group g x.b.node) (group g x.a.node) (group g node)) →
    Rooted set n g kept → Rooted set n after (kept ++ x ∷ [])
rooted_next set n g after kept x e small here there apart is r =
    let a : ℕ = x.a.node in
    let b : ℕ = x.b.node in
    let near : x.a.node < 63 = below set x.a.node small here in
    let other : x.b.node < 63 = below set x.b.node small there in
    let j : Joining g after x.a.node x.b.node = record { near = near; other = other; apart = apart; is = is } in
    let gone : Holds r.roots (group g x.b.node) = (r.are (group g x.b.node)).1 (r.inside x.b.node there, r.own x.b.node other) in
    let less = less_by r.roots (group g x.b.node) r.small gone in
    let l : Less r.roots (group g x.b.node) less.0 = less.1 in
    record {
      own = λ y h. own_next set n g after kept x.a.node x.b.node y r j h;
      few = λ y h. of_either (λ (z : ℕ). z < 63) g after x.a.node x.b.node y j h (r.few x.a.node near) (r.few y h);
      inside = λ y h. of_either (λ (z : ℕ). Holds set z) g after x.a.node x.b.node y j (below set y small h) (r.inside x.a.node here) (r.inside y h);
      roots = less.0;
      small = l.small;
      are = λ y. (
        (λ h.
            let ne : y ≢ group g x.b.node = not_gone r.roots (group g x.b.node) less.0 y l h in
            let was = (r.are y).0 ((l.others y ne).0 h) in
            (was.0, root_still set n g after kept x.a.node x.b.node y r j (below set y small was.0) was.1 ne)),
        (λ h.
            let was = root_before set n g after kept x.a.node x.b.node y r j (below set y small h.0) h.1 in
            (l.others y was.1).1 ((r.are y).1 (h.0, was.0))),
      );
      count = omega (arith, r.count, size_less r.roots (group g x.b.node) less.0 n e r.small l gone, length-append kept (x ∷ []));
    }

-- ---- after all cables

-- the nodes of the set below a number that are in one group, and the rest of the set
only : (set k : ℕ) (g : Groups) (n : ℕ) → set < 2 ^ 63 →
    (part : ℕ) × (part < 2 ^ 63) × ((x : ℕ) → Holds part x ↔ (Holds set x × (x < n → group g x ≡ k)))
only set k g zero small = (set, small, λ x. ((λ h. (h, λ less. absurd (omega (arith, less)))), (λ h. h.0)))
only set k g (suc n) small =
    let before = only set k g n small in
    elim (cases_eq (group g n) k) [
      | inl same ↦ (
        before.0,
        before.1,
        λ x. (
          (λ h.
              let was = (before.2 x).0 h in (
                was.0,
                λ less. elim (cases_eq x n) [
                  | inl e ↦ subst (λ (y : ℕ). group g y ≡ k) (sym e) same
                  | inr ne ↦ was.1 (omega (arith, less, ne))
                ],
              )),
          (λ h. (before.2 x).1 (h.0, λ less. h.1 (omega (arith, less)))),
        ),
      )
      | inr differs ↦ elim (holds_or_not before.0 n) [
        | inr out ↦ (
          before.0,
          before.1,
          λ x. (
            (λ h.
                let was = (before.2 x).0 h in
                let ne : x ≢ n = λ e. out (subst (λ (y : ℕ). Holds before.0 y) e h) in
                (was.0, λ less. was.1 (omega (arith, less, ne)))),
            (λ h. (before.2 x).1 (h.0, λ less. h.1 (omega (arith, less)))),
          ),
        )
        | inl is ↦
            let less = less_by before.0 n before.1 is in
            let l : Less before.0 n less.0 = less.1 in (
              less.0,
              l.small,
              λ x. (
                (λ h.
                    let ne : x ≢ n = not_gone before.0 n less.0 x l h in
                    let was = (before.2 x).0 ((l.others x ne).0 h) in
                    (was.0, λ low. was.1 (omega (arith, low, ne)))),
                (λ h.
                    let ne : x ≢ n = λ e. differs (subst (λ (y : ℕ). group g y ≡ k) e (h.1 (omega (arith, e)))) in
                    (l.others x ne).1 ((before.2 x).1 (h.0, λ low. h.1 (omega (arith, low))))),
              ),
            )
      ]
    ]

-- the nodes of a component are in one group
pub one_group : (c : Wiring) (node set n : ℕ) (g : Groups) (cables : List Cable) → n ≡ 63 →
    set < 2 ^ 63 → IsComponent c node set → HoldsEachOnce c set cables → Grouped g cables →
    (x : ℕ) → Holds set x → group g node ≡ group g x
one_group c node set n g cables ends small is each h x here =
    let part = only set (group g node) g n small in
    let closed : IsClosed c part.0 = λ a b e in_part.
    let was = (part.2 a.node).0 in_part in
    let at_a : group g a.node ≡ group g node = was.1 (omega (arith, ends, below set a.node small was.0)) in
    let joins : group g a.node ≡ group g b.node = h.closed (cable a b) ((each.all (cable a b)).1 (record { joined = e; here = was.0 })) in
    (part.2 b.node).1 (is.closed a b e was.0, λ low. sym joins ∙ at_a) in
    let holds : Holds part.0 node = (part.2 node).1 (is.holds, λ low. refl) in
    sym (((part.2 x).0 (is.least part.0 holds closed x here)).1 (omega (arith, ends, below set x small here)))

-- so it has one root, and as many kept cables as nodes, less one
pub one_root : (set n node : ℕ) (g : Groups) (kept : List Cable) → n ≡ 63 → set < 2 ^ 63 →
    Holds set node → Rooted set n g kept → ((x : ℕ) → Holds set x → group g node ≡ group g x) →
    length kept + 1 ≡ size_below set n
one_root set n node g kept e small here r same =
    let root : Holds r.roots (group g node) = (r.are (group g node)).1 (r.inside node here, r.own node (below set node small here)) in
    let most : size_below r.roots n ≤ 1 = size_within (group g node ∷ []) r.roots n e r.small (λ x h. let is = (r.are x).0 h in inl (sym is.1 ∙ sym (same x is.0))) in
    omega (arith, r.count, most, size_some r.roots (group g node) n e r.small root)
