-- What each part of the list of changes adds.
use Rattle.std.proofs.Common.{◌≡◌, ℕ, zero, suc, ◌+◌, ◌-◌, ◌||◌, Bool, true, false, Option, Some, None, List, [], ◌∷◌, ◌++◌, length, refl, sym, subst, append_assoc, append-nil, add-one, eqb-true}
use Rattle.std.specs.Prelude.{slice_get, is_some, ◌==◌, if◌then◌else◌}
use Rattle.std.proofs.lemmas.Bool.{eqb-false}
use Rattle.self_id.specs.declared.node.Attrs.{Attrs}
use Rattle.self_id.specs.Node.{Node}
use Rattle.topology_stack.specs.Tree.{Tree, walk}
use Rattle.topology_stack.specs.Elect.{elected}
use Rattle.view_text.specs.declared.cable.Cable.{Cable}
use Rattle.view_text.specs.Cable.{cables}
use Rattle.bus_diff.specs.declared.pair.Pair.{Pair}
use Rattle.bus_diff.specs.declared.change.Change.{Change}
use Rattle.bus_diff.specs.declared.change.Change.TheVariants.{Went, Came, Moved, Value, Root, Manager}
use Rattle.bus_diff.specs.declared.change.Quality.{Quality}
use Rattle.bus_diff.specs.declared.change.Quality.TheVariants.{Link, Gap, Speed, Contender, Power}
use Rattle.bus_diff.specs.Matching.{stays, stood, is_one}
use Rattle.bus_diff.specs.Change.{hangs_on, pulled, plugged, value_of, is_one_or_none, AreChanges}
use Rattle.bus_diff.specs.Listed.{if_gone, gone, if_come, come, if_moved, moved, if_other, other_attrs, other_values, values_at, values, if_rooted, if_managed, changes}
use Rattle.bus_diff.specs.codings.Told.{Adds, Below, IsGoneAt, IsNewAt, IsMoveOf, IsValueOf, IsSomeValueOf, IsValueAt, OfSome, IsRootChange, IsManagerChange}
use Rattle.bus_diff.proofs.Adding.{adds_none, adds_one, below_none, below_more, some_none, some_front}
use Rattle.bus_diff.proofs.Whole.{adds_five, adds_values, whole}

none_more : (xs : List Change) (P : Change → Type 0) → ((c : Change) → P c → ⊥) → Adds xs (xs ++ []) P
none_more xs P none = subst (λ (ys : List Change). Adds xs ys P) (sym (append-nil xs)) (adds_none xs P none)

-- ---- who went and who came

adds_if_gone : (cs : List Cable) (ps : List Pair) (id : ℕ) (xs : List Change) →
    Adds xs (xs ++ if_gone cs ps id) (IsGoneAt cs ps id)
adds_if_gone cs ps id xs = go (stays ps id) refl
  where
    go : (b : Bool) → stays ps id ≡ b →
        Adds xs (xs ++ (if b then [] else Went id (hangs_on cs id) ∷ [])) (IsGoneAt cs ps id)
    go true e = none_more xs (IsGoneAt cs ps id) (λ c g. let no_it : stays ps id ≡ false = g.0 in cc)
    go false e = adds_one xs (Went id (hangs_on cs id)) (IsGoneAt cs ps id) (e, refl) (λ c g. g.1)

adds_gone : (cs : List Cable) (ps : List Pair) (n : ℕ) (xs : List Change) →
    Adds xs (xs ++ gone cs ps n) (Below (IsGoneAt cs ps) n)
adds_gone cs ps zero xs =
    subst (λ (ys : List Change). Adds xs ys (Below (IsGoneAt cs ps) 0)) (sym (append-nil xs)) (below_none (IsGoneAt cs ps) xs)
adds_gone cs ps (suc k) xs =
    subst (λ (n : ℕ). Adds xs (xs ++ (gone cs ps k ++ if_gone cs ps k)) (Below (IsGoneAt cs ps) n)) (add-one k)
    (subst (λ (ys : List Change). Adds xs ys (Below (IsGoneAt cs ps) (k + 1))) (append_assoc xs (gone cs ps k) (if_gone cs ps k))
    (below_more (IsGoneAt cs ps) k xs (xs ++ gone cs ps k) ((xs ++ gone cs ps k) ++ if_gone cs ps k) (adds_gone cs ps k xs) (adds_if_gone cs ps k (xs ++ gone cs ps k))))

adds_if_come : (cs : List Cable) (ps : List Pair) (id : ℕ) (xs : List Change) →
    Adds xs (xs ++ if_come cs ps id) (IsNewAt cs ps id)
adds_if_come cs ps id xs = go (stood ps id) refl
  where
    go : (b : Bool) → stood ps id ≡ b →
        Adds xs (xs ++ (if b then [] else Came id (hangs_on cs id) ∷ [])) (IsNewAt cs ps id)
    go true e = none_more xs (IsNewAt cs ps id) (λ c g. let no_it : stood ps id ≡ false = g.0 in cc)
    go false e = adds_one xs (Came id (hangs_on cs id)) (IsNewAt cs ps id) (e, refl) (λ c g. g.1)

adds_come : (cs : List Cable) (ps : List Pair) (n : ℕ) (xs : List Change) →
    Adds xs (xs ++ come cs ps n) (Below (IsNewAt cs ps) n)
adds_come cs ps zero xs =
    subst (λ (ys : List Change). Adds xs ys (Below (IsNewAt cs ps) 0)) (sym (append-nil xs)) (below_none (IsNewAt cs ps) xs)
adds_come cs ps (suc k) xs =
    subst (λ (n : ℕ). Adds xs (xs ++ (come cs ps k ++ if_come cs ps k)) (Below (IsNewAt cs ps) n)) (add-one k)
    (subst (λ (ys : List Change). Adds xs ys (Below (IsNewAt cs ps) (k + 1))) (append_assoc xs (come cs ps k) (if_come cs ps k))
    (below_more (IsNewAt cs ps) k xs (xs ++ come cs ps k) ((xs ++ come cs ps k) ++ if_come cs ps k) (adds_come cs ps k xs) (adds_if_come cs ps k (xs ++ come cs ps k))))

-- ---- who moved

adds_move : (ps : List Pair) (old new : List Cable) (p : Pair) (xs : List Change) →
    Adds xs (xs ++ if_moved ps old new p) (IsMoveOf ps old new p)
adds_move ps old new p xs = go (is_some from || is_some to) refl
  where
    from : Option Cable
    from = pulled ps old new p.old

    to : Option Cable
    to = plugged ps old new p.new

    go : (b : Bool) → (is_some from || is_some to) ≡ b →
        Adds xs (xs ++ (if b then Moved p from to ∷ [] else [])) (IsMoveOf ps old new p)
    go true e = adds_one xs (Moved p from to) (IsMoveOf ps old new p) (e, refl) (λ c g. g.1)
    go false e = none_more xs (IsMoveOf ps old new p) (λ c g. let some_it : (is_some from || is_some to) ≡ true = g.0 in cc)

adds_moved : (ps : List Pair) (old new : List Cable) (qs : List Pair) (xs : List Change) →
    Adds xs (xs ++ moved ps old new qs) (OfSome qs (IsMoveOf ps old new))
adds_moved ps old new [] xs =
    subst (λ (ys : List Change). Adds xs ys (OfSome [] (IsMoveOf ps old new))) (sym (append-nil xs)) (some_none (IsMoveOf ps old new) xs)
adds_moved ps old new (q ∷ qs) xs =
    subst (λ (ys : List Change). Adds xs ys (OfSome (q ∷ qs) (IsMoveOf ps old new))) (append_assoc xs (if_moved ps old new q) (moved ps old new qs))
    (some_front (IsMoveOf ps old new) q qs xs (xs ++ if_moved ps old new q) ((xs ++ if_moved ps old new q) ++ moved ps old new qs)
    (adds_move ps old new q xs) (adds_moved ps old new qs (xs ++ if_moved ps old new q)))

-- ---- whose values are others

adds_other : (p : Pair) (a b : Attrs) (q : Quality) (xs : List Change) →
    Adds xs (xs ++ if_other p a b q) (IsValueOf p a b q)
adds_other p a b q xs = go (value_of q a == value_of q b) refl
  where
    from : ℕ
    from = value_of q a

    to : ℕ
    to = value_of q b

    go : (t : Bool) → (from == to) ≡ t →
        Adds xs (xs ++ (if t then [] else Value p q from to ∷ [])) (IsValueOf p a b q)
    go true e = none_more xs (IsValueOf p a b q) (λ c g. g.0 (eqb-true _ _ e))
    go false e = adds_one xs (Value p q from to) (IsValueOf p a b q) (eqb-false _ _ e, refl) (λ c g. g.1)

adds_attrs : (p : Pair) (a b : Attrs) (xs : List Change) →
    Adds xs (xs ++ other_attrs p a b) (IsSomeValueOf p a b)
adds_attrs p a b xs =
    let l = if_other p a b Link in
    let g = if_other p a b Gap in
    let s = if_other p a b Speed in
    let c = if_other p a b Contender in
    let w = if_other p a b Power in
    let same : (((((xs ++ l) ++ g) ++ s) ++ c) ++ w) ≡ xs ++ (l ++ (g ++ (s ++ (c ++ w)))) = simp append_assoc refl in
    subst (λ (ys : List Change). Adds xs ys (IsSomeValueOf p a b)) same
    (adds_five p a b xs (xs ++ l) ((xs ++ l) ++ g) (((xs ++ l) ++ g) ++ s) ((((xs ++ l) ++ g) ++ s) ++ c) (((((xs ++ l) ++ g) ++ s) ++ c) ++ w)
    (adds_other p a b Link xs) (adds_other p a b Gap (xs ++ l)) (adds_other p a b Speed ((xs ++ l) ++ g))
    (adds_other p a b Contender (((xs ++ l) ++ g) ++ s)) (adds_other p a b Power ((((xs ++ l) ++ g) ++ s) ++ c)))

adds_option : (ns ms : List Node) (p : Pair) (a b : Option Node) (xs : List Change) →
    slice_get ns p.old ≡ a → slice_get ms p.new ≡ b →
    Adds xs (xs ++ other_values p a b) (IsValueAt ns ms p)
adds_option ns ms p None b xs e f = none_more xs (IsValueAt ns ms p) (λ c s. let bad : ⊥ = rw e at s.3 in bad)
adds_option ns ms p (Some m) None xs e f = none_more xs (IsValueAt ns ms p) (λ c s. let bad : ⊥ = rw f at s.4 in bad)
adds_option ns ms p (Some m) (Some n) xs e f =
    adds_values ns ms p m n m.attrs n.attrs xs (xs ++ other_attrs p m.attrs n.attrs) e f refl refl (adds_attrs p m.attrs n.attrs xs)

adds_all_values : (ns ms : List Node) (qs : List Pair) (xs : List Change) →
    Adds xs (xs ++ values ns ms qs) (OfSome qs (IsValueAt ns ms))
adds_all_values ns ms [] xs =
    subst (λ (ys : List Change). Adds xs ys (OfSome [] (IsValueAt ns ms))) (sym (append-nil xs)) (some_none (IsValueAt ns ms) xs)
adds_all_values ns ms (q ∷ qs) xs =
    subst (λ (ys : List Change). Adds xs ys (OfSome (q ∷ qs) (IsValueAt ns ms))) (append_assoc xs (values_at ns ms q) (values ns ms qs))
    (some_front (IsValueAt ns ms) q qs xs (xs ++ values_at ns ms q) ((xs ++ values_at ns ms q) ++ values ns ms qs)
    (adds_option ns ms q (slice_get ns q.old) (slice_get ms q.new) xs refl refl) (adds_all_values ns ms qs (xs ++ values_at ns ms q)))

-- ---- the root and the manager

adds_root : (ps : List Pair) (from to : ℕ) (xs : List Change) →
    Adds xs (xs ++ if_rooted ps from to) (IsRootChange ps from to)
adds_root ps from to xs = go (is_one ps from to) refl
  where
    go : (b : Bool) → is_one ps from to ≡ b →
        Adds xs (xs ++ (if b then [] else Root from to ∷ [])) (IsRootChange ps from to)
    go true e = none_more xs (IsRootChange ps from to) (λ c g. let no_it : is_one ps from to ≡ false = g.0 in cc)
    go false e = adds_one xs (Root from to) (IsRootChange ps from to) (e, refl) (λ c g. g.1)

adds_manager : (ps : List Pair) (from to : Option ℕ) (xs : List Change) →
    Adds xs (xs ++ if_managed ps from to) (IsManagerChange ps from to)
adds_manager ps from to xs = go (is_one_or_none ps from to) refl
  where
    go : (b : Bool) → is_one_or_none ps from to ≡ b →
        Adds xs (xs ++ (if b then [] else Manager from to ∷ [])) (IsManagerChange ps from to)
    go true e = none_more xs (IsManagerChange ps from to) (λ c g. let no_it : is_one_or_none ps from to ≡ false = g.0 in cc)
    go false e = adds_one xs (Manager from to) (IsManagerChange ps from to) (e, refl) (λ c g. g.1)

-- ---- the whole

six : (a b c d e f : List Change) →
    (((((([] ++ a) ++ b) ++ c) ++ d) ++ e) ++ f) ≡ a ++ (b ++ (c ++ (d ++ (e ++ f))))
six a b c d e f = simp append_assoc refl

-- the list of changes has exactly the changes
pub are_changes : (t u : Tree) (ps : List Pair) → length (walk t) - 1 + 1 ≡ length (walk t) →
    length (walk u) - 1 + 1 ≡ length (walk u) → AreChanges t u ps (changes t u ps)
are_changes t u ps some_old some_new =
    let a = gone (cables t) ps (length (walk t)) in
    let b = come (cables u) ps (length (walk u)) in
    let c = moved ps (cables t) (cables u) ps in
    let d = values (walk t) (walk u) ps in
    let from = length (walk t) - 1 in
    let to = length (walk u) - 1 in
    let e = if_rooted ps from to in
    let f = if_managed ps (elected t) (elected u) in
    let s1 = [] ++ a in
    let s2 = s1 ++ b in
    let s3 = s2 ++ c in
    let s4 = s3 ++ d in
    let s5 = s4 ++ e in
    subst (λ (xs : List Change). AreChanges t u ps xs) (six a b c d e f)
    (whole t u ps from to s1 s2 s3 s4 s5 (s5 ++ f) some_old some_new
    (adds_gone (cables t) ps (length (walk t)) []) (adds_come (cables u) ps (length (walk u)) s1)
    (adds_moved ps (cables t) (cables u) ps s2) (adds_all_values (walk t) (walk u) ps s3)
    (adds_root ps from to s4) (adds_manager ps (elected t) (elected u) s5))
