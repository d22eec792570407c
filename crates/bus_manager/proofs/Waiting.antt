-- The reaches that wait for a parent, as far as the nodes have come.
use Rattle.std.proofs.Common.{◌≡◌, ℕ, zero, suc, ◌+◌, ◌-◌, ◌≤◌, List, [], ◌∷◌, ◌++◌, length, take, drop, sym, ap, subst, ◌∙◌, arith, All, length-append}
use Rattle.std.specs.Prelude.{slice_get, Some}
use Rattle.std.proofs.lemmas.List.{length-take, drop_all}
use Rattle.std.proofs.lemmas.List.Elements.{All-take, All-drop, All-append, All-weaker}
use Rattle.self_id.specs.Node.{Node, downs}
use Rattle.topology_stack.specs.Tree.{Tree, walk}
use Rattle.bus_manager.specs.declared.paths.Reach.{Reach}
use Rattle.bus_manager.specs.codings.Reach.{above, after_node, after_nodes}
use Rattle.bus_manager.proofs.Longest.{reach, after_nodes-walk}

abbrev pub Shallow : ℕ → Reach → Type 0
Shallow id r = r.depth + 1 ≤ id

-- after so many nodes of the tree
pub record Waiting (t : Tree) (id : ℕ) (ws : List Reach) : Type 0 where
  pub whole : after_nodes ws (drop id (walk t)) ≡ reach t ∷ []
  pub shallow : All (Shallow id) ws
  pub few : length ws ≤ id

pub start : (t : Tree) → Waiting t 0 []
start t = record { whole = after_nodes-walk t []; shallow = λ k d lt. absurd (omega (arith, lt)); few = omega arith }

head_of : (P : Reach → Type 0) (r : Reach) (rs : List Reach) → All P (r ∷ rs) → P r
head_of P r rs h = h 0 r (omega arith)

rest_of : (P : Reach → Type 0) (r : Reach) (rs : List Reach) → All P (r ∷ rs) → All P rs
rest_of P r rs h k d lt = h (suc k) d (omega (arith, lt))

above_shallow : (id : ℕ) (rs : List Reach) → All (Shallow id) rs → (above rs).depth ≤ id
above_shallow id [] h = omega arith
above_shallow id (r ∷ rs) h = omega (arith, head_of (Shallow id) r rs h, above_shallow id rs (rest_of (Shallow id) r rs h))

one : (id : ℕ) (r : Reach) → Shallow id r → All (Shallow id) (r ∷ [])
one id r h zero d lt = h
one id r h (suc k) d lt = absurd (omega (arith, lt))

from_here : (ns : List Node) (id : ℕ) (n : Node) → slice_get ns id ≡ Some n →
    drop id ns ≡ n ∷ drop (id + 1) ns
from_here [] id n e = absurd cc
from_here (m ∷ ns) zero n e = let same : m ≡ n = cc in ap (λ (x : Node). x ∷ ns) same
from_here (m ∷ ns) (suc id) n e = let more : suc id + 1 ≡ suc (id + 1) = omega arith in rw more (from_here ns id n e)

pub next : (t : Tree) (id from : ℕ) (ws after : List Reach) (n : Node) (r : Reach) →
    Waiting t id ws → slice_get (walk t) id ≡ Some n → from ≡ length ws - downs n.ports →
    r ≡ above (drop from ws) →
    after ≡ take from ws ++ r ∷ [] → Waiting t (id + 1) after
next t id from ws after n r h at start_is r_is is =
    let new : r ∷ [] ≡ above (drop from ws) ∷ [] = ap (λ (x : Reach). x ∷ []) r_is in
    let joins : after ≡ after_node ws n = is ∙ ap (λ (x : List Reach). take from ws ++ x) new ∙ ap (λ (k : ℕ). take k ws ++ above (drop k ws) ∷ []) start_is in
    let deep : (above (drop from ws)).depth ≤ id = above_shallow id (drop from ws) (All-drop (Shallow id) from ws h.shallow) in
    record {
      whole = ap (λ (x : List Reach). after_nodes x (drop (id + 1) (walk t))) joins ∙ sym (ap (after_nodes ws) (from_here (walk t) id n at)) ∙ h.whole;
      shallow = subst (All (Shallow (id + 1))) (sym is)
          (All-append (Shallow (id + 1)) (take from ws) (r ∷ []) (All-weaker (Shallow id) (Shallow (id + 1)) (λ x s. omega (arith, s)) (take from ws) (All-take (Shallow id) from ws h.shallow))
          (one (id + 1) r (omega (arith, deep, ap (λ (x : Reach). x.depth) r_is))));
      few = rw is (omega (arith, h.few, length-append (take from ws) (r ∷ []), length-take from ws));
    }

-- at the end the one reach is the tree's
pub end : (t : Tree) (ws : List Reach) → Waiting t (length (walk t)) ws → ws ≡ reach t ∷ []
end t ws h = ap (after_nodes ws) (sym (drop_all (length (walk t)) (walk t) (omega arith))) ∙ h.whole
