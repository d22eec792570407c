-- Between two nodes of a bus there is one path.
use Rattle.std.proofs.Common.{◌≡◌, ◌≢◌, ℕ, ◌<◌, ◌≤◌, List, [], ◌∷◌, length, Some, refl, sym, ap, subst, ◌∙◌, ⊎_elim, arith}
use Rattle.std.proofs.lemmas.Bool.{cases_lt, cases_eq}
use Rattle.topology_stack.specs.Tree.{Tree, walk, IsBusTree}
use Rattle.topology_stack.specs.Far.{Far}
use Rattle.speed_map.specs.Path.{IsNew, IsPath}
use Rattle.speed_map.specs.codings.Sweep.{IsUnder}
use Rattle.speed_map.proofs.Facts.{first_le, child_in, parent_in, in_child, nested, has_parent, apart, down_again, joined_within}

-- a node whose child lies strictly in a subtree lies there too
owner_under : (t : Tree) (id slot k top : ℕ) → IsBusTree t → id < length (walk t) →
    Far t id slot (Some k) → k < id → IsUnder t k top → k < top → id ≤ top
owner_under t id slot k top bus lt far below under less = ⊎_elim
    (λ (beyond : top < id).
    let high = under.high in
    let inside = child_in t id slot k bus lt far below in
    let own = first_le t k (omega (arith, below, lt)) in
    let c = in_child t id top lt (record { low = omega (arith, inside, own, less); high = omega (arith, beyond) }) beyond in
    let child_low = c.under.low in
    let child_high = c.under.high in
    let child_before = c.before in
    let gap = apart t id slot c.slot k c.k bus lt far c.far (omega (arith, less, child_high)) c.before in
    let inner = nested t c.k top (omega (arith, child_before, lt)) c.under in
    let low = under.low in
    absurd (omega (arith, gap, inner, low)))
    (λ (le : id ≤ top). le)
    (cases_lt top id)

-- a node has one parent
one_parent : (t : Tree) (id a b x y : ℕ) → IsBusTree t → id < length (walk t) →
    x < length (walk t) → y < length (walk t) → Far t id a (Some x) → Far t id b (Some y) → id < x →
    id < y → x ≤ y
one_parent t id a b x y bus lt lx ly fa fb ax ay =
    let p = parent_in t id b y (omega (arith, ly, ay)) fb ay in
    let low = p.1 in
    let own = first_le t id lt in
    let back = down_again t id a x bus lt lx fa ax in
    owner_under t x back.0 id y bus lx back.1 ax (record { low = omega (arith, low, own); high = omega (arith, ay) }) ay

-- a slot that leads down has one that leads back up
up_again : (t : Tree) (id slot k : ℕ) → IsBusTree t → id < length (walk t) →
    Far t id slot (Some k) → k < id → (back : ℕ) × Far t k back (Some id)
up_again t id slot k bus lt far below =
    let h = has_parent t k bus (omega (arith, below, lt)) in
    let w = joined_within t k h.slot h.k bus (omega (arith, below, lt)) h.far in
    let back = down_again t k h.slot h.k bus (omega (arith, below, lt)) w.0 h.far h.after in
    let own = first_le t k (omega (arith, below, lt)) in
    let inside = child_in t id slot k bus lt far below in
    let inside' = child_in t h.k back.0 k bus w.0 back.1 h.after in
    let one = owner_under t id slot k h.k bus lt far below (record { low = omega (arith, inside', own); high = let after = h.after in omega (arith, after) }) h.after in
    let two = owner_under t h.k back.0 k id bus w.0 back.1 h.after (record { low = omega (arith, inside, own); high = omega (arith, below) }) below in
    let same : h.k ≡ id = omega (arith, one, two) in
    (h.slot, subst (λ (x : ℕ). Far t k h.slot (Some x)) same h.far)

-- ---- a path that doesn't come back to a node stays on its side

stays_under : (t : Tree) (top a p : ℕ) (id to : ℕ) (ids : List ℕ) → IsBusTree t →
    top < length (walk t) → p < length (walk t) → Far t top a (Some p) → top < p →
    id < length (walk t) → IsUnder t id top → IsNew p ids →
    IsPath t id to ids → IsUnder t to top
stays_under t top a p id to [] bus lt lp far up_to li under new path = subst (λ (x : ℕ). IsUnder t x top) path under
stays_under t top a p id to (next ∷ ids) bus lt lp far up_to li under new path =
    let j = path.0 in
    let w = joined_within t id j.slot next bus li j.far in
    let low = under.low in
    let high = under.high in
    let on : IsUnder t next top = ⊎_elim
    (λ (below : next < id).
    let inner = nested t top id lt under in
    let inside = child_in t id j.slot next bus li j.far below in
    let own = first_le t next w.0 in
    record { low = omega (arith, inner, inside, own); high = omega (arith, below, high) })
    (λ (ge : id ≤ next).
    let more : id < next = omega (arith, ge, w.1) in
    ⊎_elim
    (λ (same : id ≡ top).
    let j_far : Far t top j.slot (Some next) = subst (λ (x : ℕ). Far t x j.slot (Some next)) same j.far in
    let one = one_parent t top a j.slot p next bus lt lp w.0 far j_far up_to (omega (arith, more, same)) in
    let two = one_parent t top j.slot a next p bus lt w.0 lp j_far far (omega (arith, more, same)) up_to in
    absurd (new.0 (omega (arith, one, two))))
    (λ (ne : id ≢ top).
    let back = down_again t id j.slot next bus li w.0 j.far more in
    let le = owner_under t next back.0 id top bus w.0 back.1 more under (omega (arith, high, ne)) in
    record { low = omega (arith, low, more); high = le })
    (cases_eq id top))
    (cases_lt next id) in
    stays_under t top a p next to ids bus lt lp far up_to w.0 on new.1 path.2

stays_outside : (t : Tree) (top : ℕ) (id to : ℕ) (ids : List ℕ) → IsBusTree t →
    top < length (walk t) → id < length (walk t) → (IsUnder t id top → ⊥) → IsNew top ids →
    IsPath t id to ids → IsUnder t to top → ⊥
stays_outside t top id to [] bus lt li out new path = λ (u : IsUnder t to top). out (subst (λ (x : ℕ). IsUnder t x top) (sym path) u)
stays_outside t top id to (next ∷ ids) bus lt li out new path =
    let j = path.0 in
    let w = joined_within t id j.slot next bus li j.far in
    let on : IsUnder t next top → ⊥ = λ (u : IsUnder t next top).
    let low = u.low in
    let high = u.high in
    let less : next < top = omega (arith, high, new.0) in
    ⊎_elim
    (λ (below : next < id).
    let le = owner_under t id j.slot next top bus li j.far below u less in
    out (record { low = omega (arith, low, below); high = le }))
    (λ (ge : id ≤ next).
    let more : id < next = omega (arith, ge, w.1) in
    let p = parent_in t id j.slot next (omega (arith, more, w.0)) j.far more in
    let inner = nested t top next lt u in
    let own = first_le t id li in
    out (record { low = omega (arith, inner, p.1, own); high = omega (arith, more, less) }))
    (cases_lt next id) in
    stays_outside t top next to ids bus lt w.0 on new.1 path.2

-- ---- one path

-- a path doesn't end at a node that it doesn't come to
ends_elsewhere : (t : Tree) (id to : ℕ) (ids : List ℕ) → to ≢ id → IsNew to ids →
    IsPath t id to ids → ⊥
ends_elsewhere t id to [] ne new path = ne (sym path)
ends_elsewhere t id to (next ∷ ids) ne new path = ends_elsewhere t next to ids new.0 new.1 path.2

-- two paths don't part, seen from the path whose next node has the lower ID
no_fork : (t : Tree) (id to a b x y : ℕ) (p q : List ℕ) → IsBusTree t → id < length (walk t) →
    Far t id a (Some x) → Far t id b (Some y) → IsNew id (x ∷ p) → IsNew id (y ∷ q) →
    IsPath t x to p → IsPath t y to q → x < y → ⊥
no_fork t id to a b x y p q bus lt fa fb new_p new_q path_p path_q less =
    let wx = joined_within t id a x bus lt fa in
    let wy = joined_within t id b y bus lt fb in
    ⊎_elim
    (λ (x_below : x < id).
    let up_x = up_again t id a x bus lt fa x_below in
    let under_x : IsUnder t to x = stays_under t x up_x.0 id x to p bus wx.0 lt up_x.1 x_below wx.0 (record { low = first_le t x wx.0; high = omega arith }) new_p.1 path_p in
    let low_x = under_x.low in
    let high_x = under_x.high in
    ⊎_elim
    (λ (y_below : y < id).
    let up_y = up_again t id b y bus lt fb y_below in
    let under_y : IsUnder t to y = stays_under t y up_y.0 id y to q bus wy.0 lt up_y.1 y_below wy.0 (record { low = first_le t y wy.0; high = omega arith }) new_q.1 path_q in
    let low_y = under_y.low in
    let gap = apart t id a b x y bus lt fa fb less y_below in
    omega (arith, gap, low_y, high_x))
    (λ (ge : id ≤ y).
    let inside = child_in t id a x bus lt fa x_below in
    stays_outside t id y to q bus lt wy.0 (λ (u : IsUnder t y id). let high = u.high in omega (arith, high, ge, wy.1)) new_q.1 path_q (record { low = omega (arith, inside, low_x); high = omega (arith, high_x, x_below) }))
    (cases_lt y id))
    (λ (ge : id ≤ x).
    let one = one_parent t id b a y x bus lt wy.0 wx.0 fb fa (omega (arith, less, ge)) (omega (arith, ge, wx.1)) in
    omega (arith, one, less))
    (cases_lt x id)

pub one_path : (t : Tree) (id to : ℕ) (p q : List ℕ) → IsBusTree t → id < length (walk t) →
    IsPath t id to p → IsPath t id to q → p ≡ q
one_path t id to [] [] bus lt hp hq = refl
one_path t id to [] (y ∷ q) bus lt hp hq = absurd (ends_elsewhere t y to q (λ (e : to ≡ y). hq.1.0 (hp ∙ e)) (subst (λ (x : ℕ). IsNew x q) hp hq.1.1) hq.2)
one_path t id to (x ∷ p) [] bus lt hp hq = absurd (ends_elsewhere t x to p (λ (e : to ≡ x). hp.1.0 (hq ∙ e)) (subst (λ (y : ℕ). IsNew y p) hq hp.1.1) hp.2)
one_path t id to (x ∷ p) (y ∷ q) bus lt hp hq =
    let jx = hp.0 in
    let jy = hq.0 in
    ⊎_elim
    (λ (same : x ≡ y).
    let rest : p ≡ q = one_path t x to p q bus (joined_within t id jx.slot x bus lt jx.far).0 hp.2 (subst (λ (z : ℕ). IsPath t z to q) (sym same) hq.2) in
    ap (λ (z : ℕ). z ∷ p) same ∙ ap (λ (l : List ℕ). y ∷ l) rest)
    (λ (ne : x ≢ y). ⊎_elim
    (λ (less : x < y). absurd (no_fork t id to jx.slot jy.slot x y p q bus lt jx.far jy.far hp.1 hq.1 hp.2 hq.2 less))
    (λ (ge : y ≤ x). absurd (no_fork t id to jy.slot jx.slot y x q p bus lt jy.far jx.far hq.1 hp.1 hq.2 hp.2 (omega (arith, ge, ne))))
    (cases_lt x y))
    (cases_eq x y)
