-- No more nodes are reached than a bus has.
use Rattle.std.proofs.Common.{◌≡◌, ◌∙◌, ℕ, zero, suc, ◌+◌, ◌<◌, ◌≤◌, min, ⊎_elim, Bool, true, false, Option, Some, None, List, [], ◌∷◌, ◌++◌, length, refl, sym, subst, arith, eq-eqb, eqb-true, length-append}
use Rattle.std.specs.Prelude.{slice_get, not, ◌==◌, ◌||◌, ◌&&◌, if◌then◌else◌}
use Rattle.std.specs.List.{list_any}
use Rattle.std.proofs.Math.Bool.{or_assoc, or-false}
use Rattle.std.proofs.lemmas.Bool.{cases_lt, and_parts, not-true}
use Rattle.std.proofs.lemmas.Option.{slice_get_within}
use Rattle.self_id.specs.Node.{Node}
use Rattle.topology_stack.specs.Tree.{Tree, walk}
use Rattle.view_text.specs.declared.cable.Cable.{Cable}
use Rattle.bus_diff.specs.declared.pair.Pair.{Pair}
use Rattle.bus_diff.specs.Matching.{stays, stood}
use Rattle.bus_diff.specs.Along.{ports_of, is_same_count, may_be_one, with_pair, reached}
use Rattle.bus_diff.proofs.Reached.{walked_keeps}

pub any_push : (of : Pair → ℕ) (ps : List Pair) (x : Pair) (k : ℕ) →
    list_any (λ p. of p == k) (ps ++ x ∷ []) ≡ (list_any (λ p. of p == k) ps || (of x == k))
any_push of [] x k = or-false (of x == k)
any_push of (p ∷ ps) x k =
    rw (any_push of ps x k) (sym (or_assoc (of p == k) (list_any (λ p. of p == k) ps) (of x == k)))

any_other : (of : Pair → ℕ) (ps : List Pair) (x : Pair) (k : ℕ) → (of x ≡ k → ⊥) →
    list_any (λ p. of p == k) (ps ++ x ∷ []) ≡ list_any (λ p. of p == k) ps
any_other of ps x k other = any_push of ps x k ∙ go (of x == k) refl
  where
    go : (b : Bool) → (of x == k) ≡ b → (list_any (λ p. of p == k) ps || b) ≡ list_any (λ p. of p == k) ps
    go true e = absurd (other (eqb-true _ _ e))
    go false e = or-false (list_any (λ p. of p == k) ps)

-- how many of the IDs below this one are in no pair
abbrev pub left : (Pair → ℕ) → List Pair → ℕ → ℕ
left of ps zero = 0
left of ps (suc k) = left of ps k + (if list_any (λ p. of p == k) ps then 0 else 1)

left_none : (of : Pair → ℕ) (n : ℕ) → left of [] n ≡ n
left_none of zero = refl
left_none of (suc k) = let ih : left of [] k ≡ k = left_none of k in omega (arith, ih)

left_over : (of : Pair → ℕ) (ps : List Pair) (x : Pair) (n : ℕ) → n ≤ of x →
    left of (ps ++ x ∷ []) n ≡ left of ps n
left_over of ps x zero le = refl
left_over of ps x (suc k) le =
    let ih : left of (ps ++ x ∷ []) k ≡ left of ps k = left_over of ps x k (omega (arith, le)) in
    rw (ih, any_other of ps x k (λ e. omega (arith, le, e))) refl

left_push : (of : Pair → ℕ) (ps : List Pair) (x : Pair) (n : ℕ) → of x < n →
    list_any (λ p. of p == of x) ps ≡ false → left of (ps ++ x ∷ []) n + 1 ≡ left of ps n
left_push of ps x zero lt free = absurd (omega (arith, lt))
left_push of ps x (suc k) lt free = ⊎_elim
    (λ (less : of x < k).
    let ih : left of (ps ++ x ∷ []) k + 1 ≡ left of ps k = left_push of ps x k less free in
    rw (any_other of ps x k (λ e. omega (arith, less, e))) (omega (arith, ih)))
    (λ (le : k ≤ of x).
    let is : of x ≡ k = omega (arith, lt, le) in
    let over : left of (ps ++ x ∷ []) k ≡ left of ps k = left_over of ps x k le in
    let was : list_any (λ p. of p == k) ps ≡ false = subst (λ (j : ℕ). list_any (λ p. of p == j) ps ≡ false) is free in
    let now : list_any (λ p. of p == k) (ps ++ x ∷ []) ≡ true = any_push of ps x k ∙ rw was (eq-eqb (of x) k is) in
    rw (was, now) (omega (arith, over)))
    (cases_lt (of x) k)

-- the pairs and the nodes that are in none are all nodes
pub record HasRoom (t u : Tree) (ps : List Pair) : Type 0 where
  pub olds : length ps + left (λ p. p.old) ps (length (walk t)) ≡ length (walk t)
  pub news : length ps + left (λ p. p.new) ps (length (walk u)) ≡ length (walk u)

room_none : (t u : Tree) → HasRoom t u []
room_none t u = record {
  olds = let e : left (λ p. p.old) [] (length (walk t)) ≡ length (walk t) = left_none (λ p. p.old) (length (walk t)) in omega (arith, e);
  news = let e : left (λ p. p.new) [] (length (walk u)) ≡ length (walk u) = left_none (λ p. p.new) (length (walk u)) in omega (arith, e);
}

both_there : (ns ms : List Node) (x : Pair) (a b : Option Node) → slice_get ns x.old ≡ a →
    slice_get ms x.new ≡ b → is_same_count (ports_of a) (ports_of b) ≡ true →
    (x.old < length ns) × (x.new < length ms)
both_there ns ms x None b e f same = absurd cc
both_there ns ms x (Some m) None e f same = absurd cc
both_there ns ms x (Some m) (Some n) e f same = (slice_get_within ns x.old m e, slice_get_within ms x.new n f)

room_push : (t u : Tree) (ps : List Pair) (x : Pair) → HasRoom t u ps → stays ps x.old ≡ false →
    stood ps x.new ≡ false → (x.old < length (walk t)) × (x.new < length (walk u)) →
    HasRoom t u (ps ++ x ∷ [])
room_push t u ps x r free_old free_new there =
    let longer : length (ps ++ x ∷ []) ≡ length ps + 1 = length-append ps (x ∷ []) in
    let fewer_old : left (λ p. p.old) (ps ++ x ∷ []) (length (walk t)) + 1 ≡ left (λ p. p.old) ps (length (walk t)) = left_push (λ p. p.old) ps x (length (walk t)) there.0 free_old in
    let fewer_new : left (λ p. p.new) (ps ++ x ∷ []) (length (walk u)) + 1 ≡ left (λ p. p.new) ps (length (walk u)) = left_push (λ p. p.new) ps x (length (walk u)) there.1 free_new in
    let olds : length ps + left (λ p. p.old) ps (length (walk t)) ≡ length (walk t) = r.olds in
    let news : length ps + left (λ p. p.new) ps (length (walk u)) ≡ length (walk u) = r.news in
    record { olds = omega (arith, longer, fewer_old, olds); news = omega (arith, longer, fewer_new, news) }

room_with : (t u : Tree) (ps : List Pair) (x : Pair) → HasRoom t u ps → HasRoom t u (with_pair t u ps x)
room_with t u ps x r = go (may_be_one t u ps x) refl
  where
    go : (b : Bool) → may_be_one t u ps x ≡ b → HasRoom t u (if b then ps ++ x ∷ [] else ps)
    go true e =
        let same = is_same_count (ports_of (slice_get (walk t) x.old)) (ports_of (slice_get (walk u) x.new)) in
        let rest = not (stood ps x.new) && same in
        let more = (and_parts (not (stays ps x.old)) rest e).1 in
        room_push t u ps x r (not-true _ ((and_parts (not (stays ps x.old)) rest e).0)) (not-true _ ((and_parts (not (stood ps x.new)) same more).0))
        (both_there (walk t) (walk u) x (slice_get (walk t) x.old) (slice_get (walk u) x.new) refl refl ((and_parts (not (stood ps x.new)) same more).1))
    go false e = r

pub reached_few : (t u : Tree) (far over : List Cable) (start : Pair) →
    length (reached t u far over start) ≤ min (length (walk t)) (length (walk u))
reached_few t u far over start =
    let r = walked_keeps t u (HasRoom t u) (room_with t u) far (with_pair t u [] start) over (room_with t u [] start (room_none t u)) in
    let olds : length (reached t u far over start) + left (λ p. p.old) (reached t u far over start) (length (walk t)) ≡ length (walk t) = r.olds in
    let news : length (reached t u far over start) + left (λ p. p.new) (reached t u far over start) (length (walk u)) ≡ length (walk u) = r.news in
    omega (arith, olds, news)

left_nothing : (of : Pair → ℕ) (ps : List Pair) (n : ℕ) →
    ((k : ℕ) → k < n → list_any (λ p. of p == k) ps ≡ true) → left of ps n ≡ 0
left_nothing of ps zero all = refl
left_nothing of ps (suc k) all =
    let rest : left of ps k ≡ 0 = left_nothing of ps k (λ j lt. all j (omega (arith, lt))) in
    rw (rest, all k (omega arith)) refl

-- where each node of the old bus is reached, as many are as there are
pub reached_all : (t u : Tree) (far over : List Cable) (start : Pair) →
    ((k : ℕ) → k < length (walk t) → list_any (λ p. p.old == k) (reached t u far over start) ≡ true) →
    length (reached t u far over start) ≡ length (walk t)
reached_all t u far over start all =
    let r = walked_keeps t u (HasRoom t u) (room_with t u) far (with_pair t u [] start) over (room_with t u [] start (room_none t u)) in
    let olds : length (reached t u far over start) + left (λ p. p.old) (reached t u far over start) (length (walk t)) ≡ length (walk t) = r.olds in
    let none : left (λ p. p.old) (reached t u far over start) (length (walk t)) ≡ 0 = left_nothing (λ p. p.old) (reached t u far over start) (length (walk t)) all in
    omega (arith, olds, none)
