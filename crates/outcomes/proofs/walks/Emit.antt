-- The list of a seen tree, node by node.
use Rattle.std.proofs.Common.{◌≡◌, ℕ, zero, suc, ◌+◌, Option, Some, None, List, [], ◌∷◌, ◌++◌, length, map, take, refl, sym, ap, ◌∙◌, arith, append_assoc, append-nil}
use Rattle.std.proofs.lemmas.List.{map-append}
use Rattle.std.specs.Prelude.{slice_get}
use Rattle.std.specs.Option.{option_map}
use Rattle.std.proofs.Math.Seq.{take-length}
use Rattle.std.proofs.lemmas.Option.{slice_get-map}
use Rattle.outcomes.proofs.Common.{Node, group, Label, Tree, branch, Slots, unplugged, up, down, End, Wiring, ports_of, Sees, SeesFrom, numbers, numbers_below, Loopless, ParentsAre, ParentsBelow, mark, place, Marked}
use Rattle.topology_stack.specs.Tree.{walk, groups}
use Rattle.cabling.proofs.Lemmas.{visits, visits_below, at_root, shown_node, walk_seen}
use Rattle.outcomes.specs.Emit.{EmitsByNode}
use Rattle.outcomes.proofs.walks.Marked.{tree-marked}

-- what a node shows, by its parent port
abbrev shown_by : Wiring → (ℕ → Label) → (ℕ → Option ℕ) → ℕ → Node
shown_by c label parent k = shown_node c label (record { node = k; from = parent k })

mutual
  shown-tree :
      (c : Wiring) (label : ℕ → Label) (parent : ℕ →
      Option ℕ) (x : ℕ) (from : Option ℕ) (t : Tree) →
      Sees c label x from t → ParentsAre c parent x from t →
      map (shown_node c label) (visits c (record { node = x; from = from }) t)
      ≡ map (shown_by c label parent) (numbers c x t)
  shown-tree c label parent x from (branch a s) h u =
      map-append (shown_node c label) (visits_below c (ports_of c x) s) ((record { node = x; from = from }) ∷ [])
      ∙ ap (λ (ns : List Node). ns ++ shown_node c label (record { node = x; from = from }) ∷ []) (shown-below c label parent from 0 (ports_of c x) s h.2 u.1)
      ∙ ap (λ (o : Option ℕ). map (shown_by c label parent) (numbers_below c (ports_of c x) s) ++ shown_node c label (record { node = x; from = o }) ∷ []) (sym u.0)
      ∙ sym (map-append (shown_by c label parent) (numbers_below c (ports_of c x) s) (x ∷ []))

  shown-below :
      (c : Wiring) (label : ℕ → Label) (parent : ℕ → Option ℕ) (from : Option ℕ) (p : ℕ)
      (row : List (Option End)) (s : Slots) → SeesFrom c label from p row s →
      ParentsBelow c parent row s →
      map (shown_node c label) (visits_below c row s)
      ≡ map (shown_by c label parent) (numbers_below c row s)
  shown-below c label parent from p [] s h u = refl
  shown-below c label parent from p (None ∷ row) (unplugged s) h u = shown-below c label parent from (p + 1) row s h u
  shown-below c label parent from p (Some e ∷ row) (up s) h u = shown-below c label parent from (p + 1) row s h.1 u
  shown-below c label parent from p (Some e ∷ row) (down t s) h u =
      map-append (shown_node c label) (visits c (record { node = e.node; from = Some e.port }) t) (visits_below c row s)
      ∙ ap (λ (ns : List Node). ns ++ map (shown_node c label) (visits_below c row s)) (shown-tree c label parent e.node (Some e.port) t h.1 u.0)
      ∙ ap (λ (ns : List Node). map (shown_by c label parent) (numbers c e.node t) ++ ns) (shown-below c label parent from (p + 1) row s h.2 u.1)
      ∙ sym (map-append (shown_by c label parent) (numbers c e.node t) (numbers_below c row s))
  shown-below c label parent from p row s h u = absurd h

walk-by :
    (c : Wiring) (label : ℕ → Label) (parent : ℕ → Option ℕ) (root set : ℕ) (t : Tree) →
    Loopless c root set → Sees c label root None t → ParentsAre c parent root None t →
    walk t ≡ map (shown_by c label parent) (numbers c root t)
walk-by c label parent root set t l h u =
    walk_seen c label (at_root root) t l.cabling l.there h
    ∙ shown-tree c label parent root None t h u

groups-next :
    (id i : ℕ) (ns : List Node) (n : Node) → slice_get ns i ≡ Some n → groups id (take (suc i) ns)
    ≡ groups id (take i ns) ++ group n (id + i)
groups-next id i [] n e = absurd cc
groups-next id zero (m ∷ ns) n e =
    let same : m ≡ n = cc in
    let here : id ≡ id + 0 = omega arith in
    append-nil (group m id) ∙ ap (λ (x : Node). group x id) same ∙ ap (λ (k : ℕ). group n k) here
groups-next id (suc i) (m ∷ ns) n e =
    let here : (id + 1) + i ≡ id + suc i = omega arith in
    ap (λ (xs : List ℕ). group m id ++ xs) (groups-next (id + 1) i ns n e)
    ∙ sym (append_assoc (group m id) (groups (id + 1) (take i ns)) (group n ((id + 1) + i)))
    ∙ ap (λ (k : ℕ). (group m id ++ groups (id + 1) (take i ns)) ++ group n k) here

pub emits-by-node :
    (c : Wiring) (label : ℕ → Label) (parent : ℕ → Option ℕ) (root set : ℕ) (t : Tree) →
    Loopless c root set → Sees c label root None t → ParentsAre c parent root None t →
    EmitsByNode c label parent set root t (mark c root t 0)
emits-by-node c label parent root set t l h u =
    let m : Marked c parent set root (numbers c root t) (mark c root t 0) = tree-marked c label parent root set t l h u in
    let nodes : walk t ≡ map (shown_by c label parent) (numbers c root t) = walk-by c label parent root set t l h u in
    record {
      none = refl;
      all = ap (λ (k : ℕ). groups 0 (take k (walk t))) (m.last ∙ sym (length-map (numbers c root t)) ∙ ap length (sym nodes)) ∙ ap (λ (ns : List Node). groups 0 ns) (take-length (walk t));
      next = λ k has.
          let i : ℕ = place c (mark c root t 0) k in
          let at : slice_get (walk t) i ≡ Some (shown_by c label parent k) =
          ap (λ (ns : List Node). slice_get ns i) nodes ∙ slice_get-map (shown_by c label parent) (numbers c root t) i ∙ ap (λ (o : Option ℕ). option_map (shown_by c label parent) o) (m.at k has) in
          let later : i + 1 ≡ suc i = omega arith in
          let id : 0 + i ≡ i = omega arith in
          ap (λ (n : ℕ). groups 0 (take n (walk t))) later
          ∙ groups-next 0 i (walk t) (shown_by c label parent k) at
          ∙ ap (λ (n : ℕ). groups 0 (take i (walk t)) ++ group (shown_by c label parent k) n) id;
    }
  where
    length-map : (xs : List ℕ) → length (map (shown_by c label parent) xs) ≡ length xs
    length-map [] = refl
    length-map (x ∷ xs) = ap (λ (n : ℕ). suc n) (length-map xs)
