-- A bus doesn't differ from itself where each node is matched with that of its own ID.
use Rattle.std.proofs.Common.{◌≡◌, ◌∙◌, ℕ, zero, suc, ◌+◌, ◌-◌, ◌<◌, ◌≤◌, Bool, true, false, Option, Some, None, List, [], ◌∷◌, ◌++◌, length, refl, sym, ap, subst, arith, eq-eqb, eqb-true}
use Rattle.std.specs.Prelude.{slice_get, ◌==◌, ◌||◌, ◌&&◌, find, if◌then◌else◌}
use Rattle.std.specs.Option.{option_or}
use Rattle.std.specs.List.{list_any}
use Rattle.std.proofs.lemmas.List.Folds.{list_any-append}
use Rattle.self_id.specs.declared.node.PortStatus.{PortStatus}
use Rattle.self_id.specs.declared.node.PortStatus.TheVariants.{Absent, Unplugged, Up, Down}
use Rattle.self_id.specs.declared.node.Attrs.{Attrs}
use Rattle.self_id.specs.Node.{Node}
use Rattle.topology_stack.specs.Tree.{Tree, walk}
use Rattle.topology_stack.specs.Far.{ends}
use Rattle.topology_stack.specs.Elect.{is_candidate, highest_from, elected}
use Rattle.topology_stack.proofs.Lemmas.{some_node}
use Rattle.view_text.specs.declared.cable.Cable.{Cable}
use Rattle.view_text.specs.Cable.{cables, cable_at, cables_of, cables_from}
use Rattle.bus_diff.specs.declared.pair.Pair.{Pair}
use Rattle.bus_diff.specs.declared.change.Quality.{Quality}
use Rattle.bus_diff.specs.declared.change.Quality.TheVariants.{Link, Gap, Speed, Contender, Power}
use Rattle.bus_diff.specs.Matching.{IsMatching, stays, stood, is_one}
use Rattle.bus_diff.specs.Change.{hangs_on, is_same_cable, if_pulled, if_plugged, value_of}
use Rattle.bus_diff.specs.Listed.{gone, come, moved, if_other, other_values, values_at, values, if_managed, changes}
use Rattle.bus_diff.specs.Along.{ports_of, is_same_count}
use Rattle.bus_diff.specs.Same.{same_below, same_ids}
use Rattle.bus_diff.proofs.Matched.{matching_none, matching_with}

-- ---- the pairs

pub same_matching : (t u : Tree) (k : ℕ) → IsMatching t u (same_below t u k)
same_matching t u zero = matching_none t u
same_matching t u (suc k) = matching_with t u (same_below t u k) (record { old = k; new = k }) (same_matching t u k)

abbrev pub own : ℕ → Pair
own id = record { old = id; new = id }

-- each ID below this one with itself
abbrev pub itself : ℕ → List Pair
itself zero = []
itself (suc k) = itself k ++ own k ∷ []

-- a test that such a pair passes
any_itself : (test : Pair → Bool) (k id : ℕ) → id < k → test (own id) ≡ true → list_any test (itself k) ≡ true
any_itself test zero id below passes = absurd (omega (arith, below))
any_itself test (suc k) id below passes =
    list_any-append test (itself k) (own k ∷ []) ∙ go (id == k) refl (λ lt. any_itself test k id lt passes)
  where
    last : (b : Bool) → (b || (true || false)) ≡ true
    last true = refl
    last false = refl

    go : (b : Bool) → (id == k) ≡ b → (id < k → list_any test (itself k) ≡ true) →
        (list_any test (itself k) || (test (own k) || false)) ≡ true
    go true e before =
        let same : test (own k) ≡ true = ap (λ (n : ℕ). test (own n)) (sym (eqb-true id k e)) ∙ passes in
        rw same (last (list_any test (itself k)))
    go false e before =
        let other : (id ≡ k) → ⊥ = λ same. let yes_it = eq-eqb id k same in absurd cc in
        rw (before (omega (arith, below, other))) refl

-- a test that none passes
none_itself : (test : Pair → Bool) (k : ℕ) → ((id : ℕ) → id < k → test (own id) ≡ false) → list_any test (itself k) ≡ false
none_itself test zero fails = refl
none_itself test (suc k) fails =
    list_any-append test (itself k) (own k ∷ []) ∙
    (rw (none_itself test k (λ id below. fails id (omega (arith, below))), fails k (omega arith)) refl)

other_id : (id k : ℕ) → id < k → (id == k) ≡ false
other_id id k below = go (id == k) refl
  where
    go : (b : Bool) → (id == k) ≡ b → b ≡ false
    go true e = let same = eqb-true id k e in absurd (omega (arith, same, below))
    go false e = refl

pub there : (ns : List Node) (k : ℕ) → k < length ns → is_same_count (ports_of (slice_get ns k)) (ports_of (slice_get ns k)) ≡ true
there [] k below = absurd (omega (arith, below))
there (n ∷ ns) zero below = eq-eqb _ _ refl
there (n ∷ ns) (suc k) below = there ns k (omega (arith, below))

-- a bus's nodes are matched so
pub same_is : (t : Tree) (k : ℕ) → k ≤ length (walk t) → same_below t t k ≡ itself k
same_is t zero few = refl
same_is t (suc k) few =
    let rest = same_is t k (omega (arith, few)) in
    let old = none_itself (λ p. p.old == k) k (λ id below. other_id id k below) in
    let new = none_itself (λ p. p.new == k) k (λ id below. other_id id k below) in
    rw (rest, old, new, there (walk t) k (omega (arith, few))) refl

-- ---- who went and came

gone_none : (cs : List Cable) (ps : List Pair) (m : ℕ) → ((id : ℕ) → id < m → stays ps id ≡ true) → gone cs ps m ≡ []
gone_none cs ps zero all = refl
gone_none cs ps (suc m) all = rw (gone_none cs ps m (λ id below. all id (omega (arith, below))), all m (omega arith)) refl

come_none : (cs : List Cable) (ps : List Pair) (m : ℕ) → ((id : ℕ) → id < m → stood ps id ≡ true) → come cs ps m ≡ []
come_none cs ps zero all = refl
come_none cs ps (suc m) all = rw (come_none cs ps m (λ id below. all id (omega (arith, below))), all m (omega arith)) refl

-- ---- cables

-- each cable hangs on a node with an ID below this one
abbrev pub AreBelow : ℕ → List Cable → Type 0
AreBelow n [] = Unit {0}
AreBelow n (c ∷ cs) = (c.parent < n) × AreBelow n cs

below-append : (n : ℕ) (cs ds : List Cable) → AreBelow n cs → AreBelow n ds → AreBelow n (cs ++ ds)
below-append n [] ds a b = b
below-append n (c ∷ cs) ds a b = (a.0, below-append n cs ds a.1 b)

at_below : (t : Tree) (n id slot : ℕ) (p : PortStatus) (e : Option ℕ) → id < n → AreBelow n (cable_at t id slot p e)
at_below t n id slot Absent e lt = tt
at_below t n id slot Unplugged e lt = tt
at_below t n id slot Up e lt = tt
at_below t n id slot Down None lt = tt
at_below t n id slot Down (Some child) lt = (lt, tt)

of_below : (t : Tree) (n id slot : ℕ) (ps : List PortStatus) (es : List (Option ℕ)) → id < n → AreBelow n (cables_of t id slot ps es)
of_below t n id slot [] es lt = tt
of_below t n id slot (p ∷ ps) [] lt = tt
of_below t n id slot (p ∷ ps) (e ∷ es) lt =
    below-append n (cable_at t id slot p e) (cables_of t id (slot + 1) ps es) (at_below t n id slot p e lt) (of_below t n id (slot + 1) ps es lt)

pub from_below : (t : Tree) (n id : ℕ) (ns : List Node) (es : List (List (Option ℕ))) → id + length ns ≤ n → AreBelow n (cables_from t id ns es)
from_below t n id [] es few = tt
from_below t n id (m ∷ ns) [] few = tt
from_below t n id (m ∷ ns) (e ∷ es) few =
    below-append n (cables_of t id 0 m.ports e) (cables_from t (id + 1) ns es)
    (of_below t n id 0 m.ports e (omega (arith, few))) (from_below t n (id + 1) ns es (omega (arith, few)))

-- a cable that is found is in the list, and its parent is below
found_any : (f g : Cable → Bool) (n : ℕ) (cs : List Cable) (c : Cable) → AreBelow n cs → find f cs ≡ Some c →
    (f c ≡ true) × (c.parent < n) × (g c ≡ true → list_any g cs ≡ true)
found_any f g n [] c below e = absurd cc
found_any f g n (x ∷ cs) c below e = go (f x) refl e (λ later. found_any f g n cs c below.1 later)
  where
    either : (b d : Bool) → d ≡ true → (b || d) ≡ true
    either true d = λ yes. refl
    either false d = λ yes. yes

    go : (b : Bool) → f x ≡ b → (if b then Some x else find f cs) ≡ Some c →
        (find f cs ≡ Some c → (f c ≡ true) × (c.parent < n) × (g c ≡ true → list_any g cs ≡ true)) →
        (f c ≡ true) × (c.parent < n) × (g c ≡ true → (g x || list_any g cs) ≡ true)
    go true is here more =
        let same : x ≡ c = cc in
        (ap f (sym same) ∙ is, subst (λ (d : Cable). d.parent < n) same below.0, λ yes. rw (ap g same ∙ yes) refl)
    go false is later more =
        let rest = more later in
        (rest.0, rest.1, λ yes. either (g x) (list_any g cs) (rest.2 yes))

-- so a cable on which a node hangs stays plugged
hangs_still : (n id : ℕ) (cs : List Cable) → AreBelow n cs → id < n →
    (if_pulled (itself n) cs (hangs_on cs id) ≡ None) × (if_plugged (itself n) cs (hangs_on cs id) ≡ None)
hangs_still n id cs below lt = go (hangs_on cs id) refl
  where
    one : (k : ℕ) → k < n → is_one (itself n) k k ≡ true
    one k few = any_itself (λ p. (p.old == k) && (p.new == k)) n k few (rw (eq-eqb k k refl) refl)

    go : (o : Option Cable) → hangs_on cs id ≡ o → (if_pulled (itself n) cs o ≡ None) × (if_plugged (itself n) cs o ≡ None)
    go None e = (refl, refl)
    go (Some c) e =
        let far = found_any (λ c. c.child == id) (λ d. is_same_cable (itself n) c d) n cs c below e in
        let near = found_any (λ c. c.child == id) (λ d. is_same_cable (itself n) d c) n cs c below e in
        let child : c.child ≡ id = eqb-true c.child id far.0 in
        let same : is_same_cable (itself n) c c ≡ true =
        rw (one c.parent far.1, one c.child (omega (arith, child, lt)), eq-eqb c.port c.port refl, eq-eqb c.child_port c.child_port refl) refl in
        (rw (far.2 same) refl, rw (near.2 same) refl)

-- ---- who moved, and values

abbrev AreOwn : ℕ → List Pair → Type 0
AreOwn n [] = Unit {0}
AreOwn n (p ∷ ps) = (p.old ≡ p.new) × (p.old < n) × AreOwn n ps

own_push : (n k : ℕ) (ps : List Pair) → AreOwn n ps → k < n → AreOwn n (ps ++ own k ∷ [])
own_push n k [] are lt = (refl, lt, tt)
own_push n k (p ∷ ps) are lt = (are.0, are.1, own_push n k ps are.2 lt)

all_own : (n k : ℕ) → k ≤ n → AreOwn n (itself k)
all_own n zero few = tt
all_own n (suc k) few = own_push n k (itself k) (all_own n k (omega (arith, few))) (omega (arith, few))

moved_none : (n : ℕ) (cs : List Cable) (ps : List Pair) → AreBelow n cs → AreOwn n ps → moved (itself n) cs cs ps ≡ []
moved_none n cs [] below are = refl
moved_none n cs (p ∷ ps) below are =
    let still = hangs_still n p.old cs below are.1 in
    let new : if_plugged (itself n) cs (hangs_on cs p.new) ≡ None = ap (λ (k : ℕ). if_plugged (itself n) cs (hangs_on cs k)) (sym are.0) ∙ still.1 in
    rw (still.0, new, moved_none n cs ps below are.2) refl

attr_none : (p : Pair) (a : Attrs) (quality : Quality) → if_other p a a quality ≡ []
attr_none p a quality = rw (eq-eqb (value_of quality a) (value_of quality a) refl) refl

attrs_none : (p : Pair) (o : Option Node) → other_values p o o ≡ []
attrs_none p None = refl
attrs_none p (Some n) =
    rw (attr_none p n.attrs Link, attr_none p n.attrs Gap, attr_none p n.attrs Speed, attr_none p n.attrs Contender, attr_none p n.attrs Power) refl

values_none : (n : ℕ) (ns : List Node) (ps : List Pair) → AreOwn n ps → values ns ns ps ≡ []
values_none n ns [] are = refl
values_none n ns (p ∷ ps) are =
    let same : values_at ns ns p ≡ [] = ap (λ (k : ℕ). other_values p (slice_get ns p.old) (slice_get ns k)) (sym are.0) ∙ attrs_none p (slice_get ns p.old) in
    rw (same, values_none n ns ps are.2) refl

-- ---- the manager

highest_below : (id m : ℕ) (ns : List Node) → highest_from id ns ≡ Some m → m < id + length ns
highest_below id m [] e = absurd cc
highest_below id m (n ∷ ns) e = go (highest_from (id + 1) ns) (is_candidate n) (λ k rest. highest_below (id + 1) k ns rest) e
  where
    go : (o : Option ℕ) (b : Bool) → ((k : ℕ) → o ≡ Some k → k < id + 1 + length ns) →
        option_or o (if b then Some id else None) ≡ Some m → m < id + length (n ∷ ns)
    go (Some k) b rest is = let same : k ≡ m = cc in omega (arith, same, rest k refl)
    go None true rest is = let same : id ≡ m = cc in omega (arith, same)
    go None false rest is = absurd cc

-- ---- all

pub same_bus : (t : Tree) → changes t t (same_ids t t) ≡ []
same_bus t =
    let n = length (walk t) in
    let cs = cables t in
    let below = from_below t n 0 (walk t) (ends t) (omega arith) in
    let are = all_own n n (omega arith) in
    let some = some_node t in
    let old : (id : ℕ) → id < n → stays (itself n) id ≡ true = λ id lt. any_itself (λ p. p.old == id) n id lt (eq-eqb id id refl) in
    let new : (id : ℕ) → id < n → stood (itself n) id ≡ true = λ id lt. any_itself (λ p. p.new == id) n id lt (eq-eqb id id refl) in
    let one : (k : ℕ) → k < n → is_one (itself n) k k ≡ true = λ k lt. any_itself (λ p. (p.old == k) && (p.new == k)) n k lt (rw (eq-eqb k k refl) refl) in
    let managed : (o : Option ℕ) → elected t ≡ o → if_managed (itself n) o o ≡ [] = managed_by in
    ap (changes t t) (same_is t n (omega arith)) ∙
    (rw (
      gone_none cs (itself n) n old,
      come_none cs (itself n) n new,
      moved_none n cs (itself n) below are,
      values_none n (walk t) (itself n) are,
      one (n - 1) (omega (arith, some)),
      managed (elected t) refl,
    ) refl)
  where
    managed_by : (o : Option ℕ) → elected t ≡ o → if_managed (itself (length (walk t))) o o ≡ []
    managed_by None e = refl
    managed_by (Some m) e =
        rw (any_itself (λ p. (p.old == m) && (p.new == m)) (length (walk t)) m (omega (arith, highest_below 0 m (walk t) e)) (rw (eq-eqb m m refl) refl)) refl

-- the same of two names of a bus
pub told_same : (t u : Tree) → t ≡ u → changes t u (same_ids t u) ≡ []
told_same t u same = subst (λ (x : Tree). changes t x (same_ids t x) ≡ []) same (same_bus t)
