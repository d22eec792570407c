-- What a write into the table of far ends changes, and that the table stays one of cables.
use Rattle.std.proofs.Common.{◌≡◌, ◌≢◌, ℕ, ◌<◌, ◌≤◌, ◌⊎◌, inl, inr, zero, suc, Option, Some, None, List, [], ◌∷◌, length, map, arith, sym, ◌∙◌, ap, subst, refl, get_or, slice_set, length-set}
use Rattle.std.proofs.lemmas.Bool.{cases_eq, cases_lt}
use Rattle.std.proofs.lemmas.List.{get_or-set_same, get_or-set_other, get_or_default, length-map, length-replicate, get_or-map as get_or-map-in}
use Rattle.std.proofs.Math.Seq.{map-set_same}
use Rattle.std.proofs.Math.ListN.{get_or-map, get_or-eq_default, replicate}
use Rattle.cabling.specs.declared.cable.End.{End}
use Rattle.cabling.specs.Wiring.{Wiring, ports_of, far, HasEnd, IsCabling, without_cables}
use Rattle.cabling.specs.Change.{SameBut, Added, TakenOut}

abbrev pub with_far : Wiring → End → Option End → Wiring
with_far c end other = slice_set c end.node (slice_set (ports_of c end.node) end.port other)

-- the same end: it has what was written
pub far-same : (c : Wiring) (a : End) (v : Option End) → HasEnd c a → far (with_far c a v) a ≡ v
far-same c a v h =
    let node : a.node < length c = h.node in
    let port : a.port < length (ports_of c a.node) = h.port in
    ap (λ (row : List (Option End)). get_or row a.port None) (get_or-set_same c a.node (slice_set (ports_of c a.node) a.port v) [] node)
    ∙ get_or-set_same (ports_of c a.node) a.port v None port

by_node : (c : Wiring) (a e : End) (v : Option End) → e.node ≢ a.node →
    far (with_far c a v) e ≡ far c e
by_node c a e v ne = ap (λ (row : List (Option End)). get_or row e.port None) (get_or-set_other c a.node e.node (slice_set (ports_of c a.node) a.port v) [] ne)

by_port : (c : Wiring) (a e : End) (v : Option End) → a.node < length c → e.node ≡ a.node →
    e.port ≢ a.port → far (with_far c a v) e ≡ far c e
by_port c a e v h same ne = rw same (
    ap (λ (row : List (Option End)). get_or row e.port None) (get_or-set_same c a.node (slice_set (ports_of c a.node) a.port v) [] h)
    ∙ get_or-set_other (ports_of c a.node) a.port e.port v None ne)

pub same_end : (a b : End) → a.node ≡ b.node → a.port ≡ b.port → a ≡ b
same_end a b n p =
    let at : ℕ → ℕ → End = λ x y. record { node = x; port = y } in
    ap (λ (x : ℕ). at x a.port) n ∙ ap (λ (y : ℕ). at b.node y) p

pub cases_end : (a b : End) → (a ≡ b) ⊎ (a ≡ b → ⊥)
cases_end a b = elim (cases_eq a.node b.node) [
  | inr n ↦ inr (λ e. n (ap (λ (x : End). x.node) e))
  | inl n ↦ elim (cases_eq a.port b.port) [
    | inr p ↦ inr (λ e. p (ap (λ (x : End). x.port) e))
    | inl p ↦ inl (same_end a b n p)
  ]
]

-- every other end: it has what it had
pub far-other : (c : Wiring) (a e : End) (v : Option End) → a.node < length c → e ≢ a →
    far (with_far c a v) e ≡ far c e
far-other c a e v h ne = elim (cases_eq e.node a.node) [
  | inr n ↦ by_node c a e v n
  | inl n ↦ by_port c a e v h n (λ p. ne (same_end e a n p))
]

pub ports-with : (c : Wiring) (a : End) (v : Option End) →
    map length (with_far c a v) ≡ map length c
ports-with c a v = map-set_same length c a.node (slice_set (ports_of c a.node) a.port v) [] (length-set (ports_of c a.node) a.port v)

-- ---- nodes and ports stay

pub same_length : (old new : Wiring) → map length new ≡ map length old → length new ≡ length old
same_length old new e = sym (length-map new length) ∙ ap length e ∙ length-map old length

ports_at : (c : Wiring) (x : ℕ) → get_or (map length c) x 0 ≡ length (ports_of c x)
ports_at c x = get_or-map length c x []

pub same_ports : (old new : Wiring) (x : ℕ) → map length new ≡ map length old →
    length (ports_of new x) ≡ length (ports_of old x)
same_ports old new x e = sym (ports_at new x) ∙ ap (λ (l : List ℕ). get_or l x 0) e ∙ ports_at old x

pub none_some : (x : Option End) (a : End) → x ≡ None → x ≡ Some a → ⊥
none_some x a n s = cc

-- an end with a cable is there
pub plugged : (c : Wiring) (a b : End) → far c a ≡ Some b → HasEnd c a
plugged c a b e =
    let port : a.port < length (ports_of c a.node) = elim (cases_lt a.port (length (ports_of c a.node))) [
      | inl less ↦ less
      | inr more ↦ absurd (none_some (far c a) b (get_or-eq_default (ports_of c a.node) None more) e)
    ] in
    record {
      node = elim (cases_lt a.node (length c)) [
        | inl less ↦ less
        | inr more ↦ let empty : ports_of c a.node ≡ [] = get_or-eq_default c [] more in absurd (omega (arith, ap length empty))
      ];
      port = port;
    }

-- ---- a write as the code does it
pub wrote : (c : Wiring) (a : End) (v : Option End) (row new : List (Option End)) →
    a.node < length c → row ≡ get_or c a.node row → new ≡ slice_set row a.port v →
    slice_set c a.node new ≡ with_far c a v
wrote c a v row new h at is =
    let same : row ≡ ports_of c a.node = at ∙ get_or_default c a.node row [] h in
    ap (λ (r : List (Option End)). slice_set c a.node r) (is ∙ ap (λ (r : List (Option End)). slice_set r a.port v) same)

-- ---- cables stay cables

pub one_other : (x : Option End) (a b : End) → x ≡ Some a → x ≡ Some b → a ≡ b
one_other x a b e f = cc

counted : (old new : Wiring) → IsCabling old → map length new ≡ map length old →
    (both : (a b : End) → far new a ≡ Some b → far new b ≡ Some a) →
    (two : (a b : End) → far new a ≡ Some b → a.node ≢ b.node) → IsCabling new
counted old new is ports both two = record {
  both_ways = both;
  two_nodes = two;
  few_nodes = rw (same_length old new ports) is.few_nodes;
  some_port = λ x h. rw (same_ports old new x ports) (is.some_port x (rw (← same_length old new ports) h));
  few_ports = λ x h. rw (same_ports old new x ports) (is.few_ports x (rw (← same_length old new ports) h));
}

-- where the table after a cable was added has a far end: the new cable, or one that was there
data Known (old : Wiring) (a b x y : End) : Type 0 where
  first : x ≡ a → y ≡ b → Known old a b x y
  second : x ≡ b → y ≡ a → Known old a b x y
  before : x ≢ a → x ≢ b → far old x ≡ Some y → Known old a b x y

known : (old new : Wiring) (a b x y : End) → Added old new a b → far new x ≡ Some y →
    Known old a b x y
known old new a b x y added e = elim (cases_end x a) [
  | inl is ↦ first is (one_other (far new a) y b (subst (λ (z : End). far new z ≡ Some y) is e) added.joined)
  | inr na ↦ elim (cases_end x b) [
    | inl is ↦ second is (one_other (far new b) y a (subst (λ (z : End). far new z ≡ Some y) is e) added.back)
    | inr nb ↦ before na nb (sym (added.others.others x na nb) ∙ e)
  ]
]

pub cabling_added : (old new : Wiring) (a b : End) → IsCabling old → a.node ≢ b.node →
    Added old new a b → IsCabling new
cabling_added old new a b is apart added =
    counted old new is added.others.ports
    (λ x y e. elim (known old new a b x y added e) [
      | first p q ↦ rw (p, q) added.back
      | second p q ↦ rw (p, q) added.joined
      | before na nb f ↦
          let back : far old y ≡ Some x = is.both_ways x y f in
          added.others.others y (λ ya. none_some (far old a) x added.free_a (subst (λ (z : End). far old z ≡ Some x) ya back)) (λ yb. none_some (far old b) x added.free_b (subst (λ (z : End). far old z ≡ Some x) yb back)) ∙ back
    ])
    (λ x y e. elim (known old new a b x y added e) [
      | first p q ↦ rw (p, q) apart
      | second p q ↦ rw (p, q) (λ same. apart (sym same))
      | before na nb f ↦ is.two_nodes x y f
    ])

-- a far end after a cable was taken out was there before, at another end
earlier : (old new : Wiring) (a b x y : End) → TakenOut old new a b → far new x ≡ Some y →
    (x ≢ a) × (x ≢ b) × (far old x ≡ Some y)
earlier old new a b x y taken e =
    let na : x ≢ a = λ is. none_some (far new a) y taken.free_a (subst (λ (z : End). far new z ≡ Some y) is e) in
    let nb : x ≢ b = λ is. none_some (far new b) y taken.free_b (subst (λ (z : End). far new z ≡ Some y) is e) in
    (na, nb, sym (taken.others.others x na nb) ∙ e)

pub cabling_taken : (old new : Wiring) (a b : End) → IsCabling old → TakenOut old new a b →
    IsCabling new
cabling_taken old new a b is taken =
    counted old new is taken.others.ports
    (λ x y e.
    let was = earlier old new a b x y taken e in
    let back : far old y ≡ Some x = is.both_ways x y was.2 in
    taken.others.others y
    (λ ya. was.1 (one_other (far old a) x b (subst (λ (z : End). far old z ≡ Some x) ya back) taken.joined))
    (λ yb. was.0 (one_other (far old b) x a (subst (λ (z : End). far old z ≡ Some x) yb back) (is.both_ways a b taken.joined)))
    ∙ back)
    (λ x y e. is.two_nodes x y (earlier old new a b x y taken e).2)

-- ---- the two writes of plug and pull

-- an end stays an end after a write
pub still_end : (c : Wiring) (a e : End) (v : Option End) → HasEnd c e → HasEnd (with_far c a v) e
still_end c a e v h =
    let same : length (with_far c a v) ≡ length c = same_length c (with_far c a v) (ports-with c a v) in
    let ports : length (ports_of (with_far c a v) e.node) ≡ length (ports_of c e.node) = same_ports c (with_far c a v) e.node (ports-with c a v) in
    record { node = omega (arith, h.node, same); port = omega (arith, h.port, ports) }

pub same_but : (c : Wiring) (a b : End) (v w : Option End) → HasEnd c a → HasEnd c b →
    SameBut c (with_far (with_far c a v) b w) a b
same_but c a b v w ha hb = record {
  ports = ports-with (with_far c a v) b w ∙ ports-with c a v;
  others = λ e na nb. far-other (with_far c a v) b e w (still_end c a b v hb).node nb ∙ far-other c a e v ha.node na;
}

pub added_by_writes : (c : Wiring) (a b : End) → HasEnd c a → HasEnd c b → far c a ≡ None →
    far c b ≡ None → a.node ≢ b.node → Added c (with_far (with_far c a (Some b)) b (Some a)) a b
added_by_writes c a b ha hb fa fb apart = record {
  free_a = fa;
  free_b = fb;
  joined = far-other (with_far c a (Some b)) b a (Some a) (still_end c a b (Some b) hb).node (λ e. apart (ap (λ (x : End). x.node) e)) ∙ far-same c a (Some b) ha;
  back = far-same (with_far c a (Some b)) b (Some a) (still_end c a b (Some b) hb);
  others = same_but c a b (Some b) (Some a) ha hb;
}

pub taken_by_writes : (c : Wiring) (a b : End) → IsCabling c → far c a ≡ Some b →
    TakenOut c (with_far (with_far c a None) b None) a b
taken_by_writes c a b is e =
    let ha : HasEnd c a = plugged c a b e in
    let hb : HasEnd c b = plugged c b a (is.both_ways a b e) in
    record {
      joined = e;
      free_a = far-other (with_far c a None) b a None (still_end c a b None hb).node (λ same. is.two_nodes a b e (ap (λ (x : End). x.node) same)) ∙ far-same c a None ha;
      free_b = far-same (with_far c a None) b None (still_end c a b None hb);
      others = same_but c a b None None ha hb;
    }

-- both writes, as the code does them
pub wrote_both : (c : Wiring) (a b : End) (v w : Option End) (row_a new_a row_b new_b : List (Option End)) →
    HasEnd c a → HasEnd c b → row_a ≡ get_or c a.node row_a → new_a ≡ slice_set row_a a.port v →
    row_b ≡ get_or (slice_set c a.node new_a) b.node row_b → new_b ≡ slice_set row_b b.port w →
    slice_set (slice_set c a.node new_a) b.node new_b ≡ with_far (with_far c a v) b w
wrote_both c a b v w row_a new_a row_b new_b ha hb at_a is_a at_b is_b =
    let first : slice_set c a.node new_a ≡ with_far c a v = wrote c a v row_a new_a ha.node at_a is_a in
    let at : row_b ≡ get_or (with_far c a v) b.node row_b = subst (λ (x : Wiring). row_b ≡ get_or x b.node row_b) first at_b in
    ap (λ (x : Wiring). slice_set x b.node new_b) first ∙ wrote (with_far c a v) b w row_b new_b (still_end c a b v hb).node at is_b

-- ---- nodes without cables

abbrev none_end : Option End
none_end = None

loose : (count port : ℕ) → get_or (replicate count (none_end)) port None ≡ None
loose zero port = refl
loose (suc count) zero = refl
loose (suc count) (suc port) = loose count port

no_cable : (counts : List ℕ) (e : End) → far (without_cables counts) e ≡ None
no_cable counts e = go counts e.node e.port
  where
    go : (counts : List ℕ) (node port : ℕ) → get_or (get_or (without_cables counts) node []) port None ≡ None
    go [] node port = refl
    go (n ∷ ns) zero port = loose n port
    go (n ∷ ns) (suc node) port = go ns node port

bare_ports : (counts : List ℕ) (node : ℕ) → node < length counts →
    length (ports_of (without_cables counts) node) ≡ get_or counts node 0
bare_ports counts node h = ap length (get_or-map-in (λ (count : ℕ). replicate count none_end) counts node 0 [] h) ∙ length-replicate (get_or counts node 0) none_end

pub bare : (counts : List ℕ) → length counts ≤ 63 →
    ((i : ℕ) → i < length counts → (1 ≤ get_or counts i 0) × (get_or counts i 0 ≤ 16)) →
    IsCabling (without_cables counts)
bare counts few each =
    let same : length (without_cables counts) ≡ length counts = length-map counts (λ count. replicate count none_end) in
    record {
      both_ways = λ a b e. absurd (none_some (far (without_cables counts) a) b (no_cable counts a) e);
      two_nodes = λ a b e. absurd (none_some (far (without_cables counts) a) b (no_cable counts a) e);
      few_nodes = omega (arith, same);
      some_port = λ x h. rw (bare_ports counts x (omega (arith, same))) (each x (omega (arith, same))).0;
      few_ports = λ x h. rw (bare_ports counts x (omega (arith, same))) (each x (omega (arith, same))).1;
    }
