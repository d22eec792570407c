-- Trees that the same cables show from two of their nodes have paths of the same lengths.
use Rattle.std.proofs.Common.{◌≡◌, ℕ, suc, ◌^◌, ◌<◌, ◌≤◌, Option, Some, None, List, [], ◌∷◌, length, get_or, inl, inr, refl, sym, ◌∙◌, ap, subst, arith}
use Rattle.std.specs.Prelude.{slice_get}
use Rattle.std.proofs.lemmas.Option.{slice_get-get_or, slice_get_within, same_Some}
use Rattle.topology_stack.specs.Tree.{Label, Tree, walk}
use Rattle.topology_stack.specs.Far.{ends}
use Rattle.speed_map.specs.Path.{Joined, IsNew, IsPath}
use Rattle.speed_map.proofs.Lemmas.{Ends, length-ends_from}
use Rattle.cabling.specs.declared.cable.End.{End}
use Rattle.cabling.specs.Wiring.{Wiring, far, IsCabling}
use Rattle.cabling.specs.Existence.{ComponentsExist}
use Rattle.cabling.specs.Sees.{Sees, numbers}
use Rattle.cabling.proofs.Lemmas.{end_at, In, Once, tree_within, tree_once, shared, tree_has, seen_loopless}
use Rattle.bus_manager.specs.Hops.{IsHops, IsLongestPath, HopsAreOfNodePaths}
use Rattle.bus_manager.proofs.Lemmas.{reach, is_hops}
use Rattle.outcomes.proofs.Lemmas.{component-small, in-read, one-place}
use Rattle.settle.specs.Hops.{HopsStay}
use Rattle.settle.proofs.SeenTrees.{so-many}
use Rattle.settle.proofs.Cables.{Agree, Leads, tree-leads}

-- ---- places in lists

place-of : (xs : List ℕ) (x : ℕ) → In x xs → (k : ℕ) × (slice_get xs k ≡ Some x)
place-of [] x i = absurd i
place-of (y ∷ xs) x (inl e) = (0, ap (λ (n : ℕ). Some n) (sym e))
place-of (y ∷ xs) x (inr i) = let p = place-of xs x i in (suc p.0, p.1)

-- two IDs in two trees are of one node
abbrev Same : List ℕ → List ℕ → ℕ → ℕ → Type 0
Same N M a b = (x : ℕ) × (slice_get N a ≡ Some x) × (slice_get M b ≡ Some x)

abbrev AllSame : List ℕ → List ℕ → List ℕ → List ℕ → Type 0
AllSame N M [] [] = Unit {0}
AllSame N M [] (y ∷ ys) = ⊥
AllSame N M (x ∷ xs) [] = ⊥
AllSame N M (x ∷ xs) (y ∷ ys) = Same N M x y × AllSame N M xs ys

new-too : (N M : List ℕ) (a b : ℕ) (xs ys : List ℕ) → Once N → Same N M a b → AllSame N M xs ys →
    IsNew a xs → IsNew b ys
new-too N M a b [] [] o s all new = tt
new-too N M a b [] (y ∷ ys) o s all new = absurd all
new-too N M a b (x ∷ xs) [] o s all new = absurd all
new-too N M a b (x ∷ xs) (y ∷ ys) o s (t, all) (ne, new) = (
  λ e. let z : s.0 ≡ t.0 = same_Some s.0 t.0 (sym s.2 ∙ ap (slice_get M) e ∙ t.2) in
      ne (one-place N a x s.0 o s.1 (t.1 ∙ ap (λ (n : ℕ). Some n) (sym z))),
  new-too N M a b xs ys o s all new,
)

-- ---- paths

module _
    (c : Wiring) (is : IsCabling c) (label other : ℕ → Label) (root next : ℕ) (t u : Tree)
    (h : Sees c label root None t) (k : Sees c other next None u) (once : Once (numbers c root t))
    (all : (x : ℕ) → In x (numbers c root t) → In x (numbers c next u)) where
  abbrev N : List ℕ
  N = numbers c root t

  abbrev M : List ℕ
  M = numbers c next u

  leads-t : (i : ℕ) (e : Ends) → slice_get (ends t) i ≡ Some e → Leads c N i e
  leads-t i e at = tree-leads c label N root None 63 0 t is h (λ p f. absurd cc) (λ j m y f g. ap (slice_get N) (omega (arith, f)) ∙ g) i i e (omega arith) at

  leads-u : (i : ℕ) (e : Ends) → slice_get (ends u) i ≡ Some e → Leads c M i e
  leads-u i e at = tree-leads c other M next None 63 0 u is k (λ p f. absurd cc) (λ j m y f g. ap (slice_get M) (omega (arith, f)) ∙ g) i i e (omega arith) at

  -- a slot that leads to a node has a cable
  cable-of : (r : Option End) (j : ℕ) → Agree N (Some (Some j)) r →
      (end : End) × (r ≡ Some end) × (slice_get N j ≡ Some end.node)
  cable-of (Some end) j a = (end, refl, a)
  cable-of None j a = absurd a

  -- and a cable has a slot
  slot-of : (r : Option (Option ℕ)) (end : End) → Agree M r (Some end) →
      (j : ℕ) × (r ≡ Some (Some j)) × (slice_get M j ≡ Some end.node)
  slot-of (Some (Some j)) end a = (j, refl, a)
  slot-of (Some None) end a = absurd a
  slot-of None end a = absurd a

  joined-too : (a b j : ℕ) → Same N M a b → Joined t a j → (i : ℕ) × Joined u b i × Same N M j i
  joined-too a b j s joined =
      let l = leads-t a joined.far.of_node joined.far.node in
      let x : l.0 ≡ s.0 = same_Some l.0 s.0 (sym l.1 ∙ s.1) in
      let cable = cable-of (far c (end_at l.0 joined.slot)) j (subst (λ (r : Option (Option ℕ)). Agree N r (far c (end_at l.0 joined.slot))) joined.far.slot_end (l.2 joined.slot)) in
      let there : b < length (ends u) = omega (arith, slice_get_within M b s.0 s.2, so-many c other next None u k, length-ends_from 0 63 u) in
      let e : Ends = get_or (ends u) b [] in
      let at : slice_get (ends u) b ≡ Some e = slice_get-get_or (ends u) b [] there in
      let m = leads-u b e at in
      let y : m.0 ≡ l.0 = same_Some m.0 l.0 (sym m.1 ∙ s.2 ∙ ap (λ (n : ℕ). Some n) (sym x)) in
      let here : far c (end_at m.0 joined.slot) ≡ Some cable.0 = ap (λ (n : ℕ). far c (end_at n joined.slot)) y ∙ cable.1 in
      let slot = slot-of (slice_get e joined.slot) cable.0 (subst (λ (r : Option End). Agree M (slice_get e joined.slot) r) here (m.2 joined.slot)) in
      (slot.0, record { slot = joined.slot; far = record { of_node = e; node = at; slot_end = slot.1 } }, (cable.0.node, cable.2, slot.2))

  path-too : (a to b : ℕ) (ids : List ℕ) → Same N M a b → IsPath t a to ids →
      (end : ℕ) × (others : List ℕ) × IsPath u b end others × AllSame N M ids others × (length others ≡ length ids)
  path-too a to b [] s path = (b, [], refl, tt, refl)
  path-too a to b (j ∷ ids) s (joined, new, path) =
      let i = joined-too a b j s joined in
      let rest = path-too j to i.0 ids i.2 path in
      (rest.0, i.0 ∷ rest.1, (i.1, new-too N M a b (j ∷ ids) (i.0 ∷ rest.1) once s (i.2, rest.3) new, rest.2), (i.2, rest.3), omega (arith, rest.4))

  -- no path is longer
  pub no-longer : (hops most : ℕ) → IsLongestPath t hops → IsLongestPath u most → hops ≤ most
  no-longer hops most p q =
      let there : p.from < length N = omega (arith, p.there, so-many c label root None t h) in
      let x : ℕ = get_or N p.from 0 in
      let at : slice_get N p.from ≡ Some x = slice_get-get_or N p.from 0 there in
      let m = place-of M x (all x (in-read N p.from x at)) in
      let path = path-too p.from p.to m.0 p.ids (x, at, m.1) p.path in
      let within : m.0 < length (walk u) = omega (arith, slice_get_within M m.0 x m.1, so-many c other next None u k) in
      omega (arith, q.longest m.0 path.0 path.1 within path.2, path.4, p.long)

pub stay : HopsAreOfNodePaths → ComponentsExist → (c : Wiring) → IsCabling c → HopsStay c
stay law exist c is label other root next set t u hops there there-next component inside h k bus bus-u hops-t =
    let small : set < 2 ^ 63 = component-small exist c root set is there component in
    let l = seen_loopless c label root set t is there small component h in
    let own = shared c root next set is component inside in
    let l-next = seen_loopless c other next set u is there-next small own k in
    let most : ℕ = (reach u).longest in
    let longest : IsHops u most = is_hops u in
    let p = law t hops bus hops-t in
    let q = law u most bus-u longest in
    let all : (x : ℕ) → In x (numbers c root t) → In x (numbers c next u) = λ x i. tree_has c other next set u is own k x (tree_within c label root set t l h x i) in
    let back : (x : ℕ) → In x (numbers c next u) → In x (numbers c root t) = λ x i. tree_has c label root set t is component h x (tree_within c other next set u l-next k x i) in
    let one = no-longer c is label other root next t u h k (tree_once c label root set t l h) all hops most p q in
    let two = no-longer c is other label next root u t k h (tree_once c other next set u l-next k) back most hops q p in
    subst (IsHops u) (omega (arith, one, two)) longest
