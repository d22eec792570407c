-- Reading one group after the other and linking the nodes, as a loop does.
use Rattle.std.proofs.Common.{◌≡◌, ℕ, ◌+◌, ◌-◌, ◌<◌, ◌≤◌, Bool, List, [], ◌∷◌, ◌++◌, length, take, drop, set, Ok, refl, sym, ap, ◌∙◌, arith, length-append, length-drop}
use Rattle.std.proofs.lemmas.List.{length-set, length-take-le}
use Rattle.self_id.specs.declared.standard.Standard.{Standard}
use Rattle.self_id.specs.Node.{Node, downs}
use Rattle.topology_stack.specs.declared.waiting.Waiting.{Waiting}
use Rattle.topology_stack.specs.Waiting.{after_node}
use Rattle.topology_stack.specs.Links.{set_all, total, Linking, linked, unlinked, AreLinks}
use Rattle.topology_stack.proofs.Linking.{all_linked-append}
use Rattle.topology_stack.proofs.Loop.{Reading, trees_are}

length-set_all : (ks : List ℕ) (id : ℕ) (ps : List ℕ) → length (set_all ks id ps) ≡ length ps
length-set_all [] id ps = refl
length-set_all (k ∷ ks) id ps = length-set_all ks id (set ps k id) ∙ length-set ps k id

total-append : (ls : List (List ℕ)) (l : List ℕ) → total (ls ++ l ∷ []) ≡ total ls + length l
total-append [] l = omega arith
total-append (m ∷ ls) l = omega (arith, total-append ls l)

-- so many nodes were linked
pub record Linked (ns : List Node) (roots parents : List ℕ) (children : List (List ℕ)) : Type 0 where
  pub above : length parents ≡ length ns
  pub below : length children ≡ length ns
  pub all : total children + length roots ≡ length ns
  pub are : AreLinks ns roots parents children

pub nothing_linked : (parents : List ℕ) (children : List (List ℕ)) → parents ≡ [] → children ≡ [] →
    Linked [] [] parents children
nothing_linked parents children p q = rw (p, q) (record { above = refl; below = refl; all = refl; are = refl })

abbrev make : List ℕ → List ℕ → List (List ℕ) → Linking
make w a b = record { waiting = w; above = a; below = b }

pub links_one_more : (ns : List Node) (n : Node) (roots parents roots' parents' : List ℕ) (children children' : List (List ℕ)) (kept : ℕ) →
    Linked ns roots parents children → kept ≡ length roots - downs n.ports →
    roots' ≡ take kept roots ++ length ns ∷ [] → parents' ≡ set_all (drop kept roots) (length parents) parents ++ 63 ∷ [] → children' ≡ children ++ drop kept roots ∷ [] →
    Linked (ns ++ n ∷ []) roots' parents' children'
links_one_more ns n roots parents roots' parents' children children' kept h k r p q =
    let some : kept ≤ length roots = omega arith in
    record {
      above = rw p (omega (arith, length-append (set_all (drop kept roots) (length parents) parents) (63 ∷ []), length-set_all (drop kept roots) (length parents) parents, length-append ns (n ∷ []), h.above));
      below = rw q (omega (arith, length-append children (drop kept roots ∷ []), length-append ns (n ∷ []), h.below));
      all = rw (q, r) (omega (arith, total-append children (drop kept roots), length-drop kept roots, length-append (take kept roots) (length ns ∷ []), length-take-le kept roots some, length-append ns (n ∷ []), h.all));
      are = rw (p, q, r, k, ← h.above) (ap (λ (l : Linking). linked (length l.waiting - downs n.ports) l) h.are ∙ sym (all_linked-append unlinked ns (n ∷ [])));
    }

-- what the loop keeps
pub record Joining (standard : Standard) (quads : List ℕ) (at found : ℕ) (rooted : Bool) (ns : List Node) (roots parents : List ℕ) (children : List (List ℕ)) : Type 0 where
  pub reading : Reading standard quads at found rooted ns
  pub count : found ≡ length roots
  pub links : Linked ns roots parents children

-- where the children of one node more begin
pub record Kept (roots parents : List ℕ) (children : List (List ℕ)) (kept : ℕ) : Type 0 where
  pub some : kept ≤ length roots
  pub small : kept < 63
  pub above : length parents < 63
  pub below : length children < 63
  pub room : total children + length (drop kept roots) ≤ 63

pub kept_is : (at found : ℕ) (n : Node) (w : Waiting) (roots : List ℕ) → found ≡ length roots →
    after_node at found n ≡ Ok w → w.trees - 1 ≡ length roots - downs n.ports
kept_is at found n w roots e go = omega (arith, trees_are at found n w go)

pub keeps : (ns : List Node) (n : Node) (roots parents : List ℕ) (children : List (List ℕ)) (kept : ℕ) →
    Linked ns roots parents children → kept ≡ length roots - downs n.ports → length ns < 63 →
    Kept roots parents children kept
keeps ns n roots parents children kept h k room = record {
  some = omega arith;
  small = omega (arith, h.all);
  above = omega (arith, h.above);
  below = omega (arith, h.below);
  room = omega (arith, h.all, length-drop kept roots);
}

pub count_is : (at found : ℕ) (n : Node) (w : Waiting) (roots roots' : List ℕ) (id kept : ℕ) →
    after_node at found n ≡ Ok w → kept ≡ w.trees - 1 → kept ≤ length roots →
    roots' ≡ take kept roots ++ id ∷ [] → w.trees ≡ length roots'
count_is at found n w roots roots' id kept go k some r = omega (arith, trees_are at found n w go, ap length r, length-append (take kept roots) (id ∷ []), length-take-le kept roots some)
