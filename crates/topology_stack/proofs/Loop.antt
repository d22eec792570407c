-- Reading one group after the other, as a loop does.
use Rattle.std.proofs.Common.{◌≡◌, ℕ, zero, suc, ◌+◌, ◌-◌, ◌<◌, ◌≤◌, Bool, true, false, cond, eqb, ltb, ◌&&◌, List, [], ◌∷◌, ◌++◌, length, drop, Result, Ok, Err, refl, sym, ap, ◌∙◌, ◌≢◌, arith, length-append, length-drop}
use Rattle.std.proofs.lemmas.List.{drop_all, drop-drop}
use Rattle.self_id.specs.declared.fault.GroupFault.{GroupFault}
use Rattle.topology_stack.specs.declared.fault.TreeFault.{TreeFault}
use Rattle.topology_stack.specs.declared.fault.TreeFault.TheVariants.{Group, Empty, TooFewChildren, TreesLeft, AfterRoot, NoRoot, TooMany}
use Rattle.self_id.specs.declared.standard.Standard.{Standard}
use Rattle.self_id.specs.Node.{Node, ups, downs}
use Rattle.self_id.specs.Group.{group, StandsAt}
use Rattle.self_id.specs.Refused.{GroupRefused}
use Rattle.self_id.proofs.Lemmas.{read_at, read_at-group, read_at-refused, length-group}
use Rattle.topology_stack.specs.declared.waiting.Waiting.{Waiting}
use Rattle.topology_stack.specs.Waiting.{after_node}
use Rattle.topology_stack.proofs.ReadFrom.{in_group, ended, unless_ended, read_from, read}

-- where the loop stands in reading all of the list
abbrev pub Reads : Standard → List ℕ → ℕ → ℕ → Bool → List Node → Type 0
Reads standard quads at found rooted ns = read_from standard (63 - length ns) at found rooted ns (drop at quads) ≡ read standard quads

pub record Reading (standard : Standard) (quads : List ℕ) (at found : ℕ) (rooted : Bool) (ns : List Node) : Type 0 where
  pub inside : at ≤ length quads
  pub room : length ns ≤ 63
  pub few : found ≤ length ns
  pub reads : Reads standard quads at found rooted ns

goes_on : (at : ℕ) (rooted : Bool) (ns : List Node) (rest : List ℕ) (more : Result (List Node) TreeFault) →
    0 < length rest → unless_ended at rooted ns rest more ≡ cond rooted (Err (AfterRoot at)) more
goes_on at rooted ns [] more lt = absurd (omega arith)
goes_on at rooted ns (q ∷ qs) more lt = refl

pub after_root : (standard : Standard) (room at found : ℕ) (ns : List Node) (rest : List ℕ) →
    0 < length rest → read_from standard room at found true ns rest ≡ Err (AfterRoot at)
unfolding read_from
after_root standard zero at found ns rest lt = goes_on at true ns rest _ lt
after_root standard (suc room) at found ns rest lt = goes_on at true ns rest _ lt

pub is_after_root : (standard : Standard) (quads : List ℕ) (at found : ℕ) (rooted : Bool) (ns : List Node) →
    at < length quads → rooted ≡ true → Reads standard quads at found rooted ns →
    read standard quads ≡ Err (AfterRoot at)
is_after_root standard quads at found rooted ns lt is h = sym h ∙ rw is (after_root standard (63 - length ns) at found ns (drop at quads) (omega (arith, length-drop at quads)))

pub full : (standard : Standard) (at found : ℕ) (ns : List Node) (rest : List ℕ) → 0 < length rest →
    read_from standard 0 at found false ns rest ≡ Err (TooMany at)
unfolding read_from
full standard at found ns rest lt = goes_on at false ns rest _ lt

pub is_full : (standard : Standard) (quads : List ℕ) (at found : ℕ) (rooted : Bool) (ns : List Node) →
    at < length quads → rooted ≡ false → length ns ≡ 63 → Reads standard quads at found rooted ns →
    read standard quads ≡ Err (TooMany at)
is_full standard quads at found rooted ns lt is len h = let none : 63 - length ns ≡ 0 = omega arith in sym h ∙ rw (is, none) (full standard at found ns (drop at quads) (omega (arith, length-drop at quads)))

abbrev pub ok_waiting : Waiting → Result Waiting TreeFault
ok_waiting w = Ok w

-- what is read where a group follows
abbrev pub next : Standard → ℕ → ℕ → ℕ → List Node → List ℕ → Node → Result (List Node) TreeFault
next standard room at found ns rest n =
    cond (ltb found (downs n.ports)) (Err (TooFewChildren at found (downs n.ports)))
    (cond (eqb (ups n.ports) 0 && ltb (downs n.ports) found) (Err (TreesLeft at found (downs n.ports)))
    (read_from standard room (at + length (group n (length ns))) (found - downs n.ports + 1) (eqb (ups n.ports) 0) (ns ++ n ∷ []) (drop (length (group n (length ns))) rest)))

pub one_more : (standard : Standard) (room at found : ℕ) (ns : List Node) (rest : List ℕ) →
    0 < length rest →
    read_from standard (suc room) at found false ns rest ≡ in_group (read_at standard at (length ns) rest) (next standard room at found ns rest)
unfolding read_from
one_more standard room at found ns rest lt = goes_on at false ns rest _ lt

unrolled : (standard : Standard) (quads : List ℕ) (at found : ℕ) (rooted : Bool) (ns : List Node) →
    at < length quads → rooted ≡ false → length ns < 63 → Reads standard quads at found rooted ns →
    in_group (read_at standard at (length ns) (drop at quads)) (next standard (62 - length ns) at found ns (drop at quads)) ≡ read standard quads
unrolled standard quads at found rooted ns lt is room h =
    let some : 63 - length ns ≡ suc (62 - length ns) = omega arith in
    sym (one_more standard (62 - length ns) at found ns (drop at quads) (omega (arith, length-drop at quads))) ∙ (rw (is, some) at h)

pub is_group_fault : (standard : Standard) (quads : List ℕ) (at found : ℕ) (rooted : Bool) (ns : List Node) (f : GroupFault) →
    at < length quads → rooted ≡ false → length ns < 63 → Reads standard quads at found rooted ns →
    read_at standard at (length ns) (drop at quads) ≡ Err f → read standard quads ≡ Err (Group f)
is_group_fault standard quads at found rooted ns f lt is room h e = sym (unrolled standard quads at found rooted ns lt is room h) ∙ rw e refl

-- what follows a node whose tests fail, or pass
fault_of_tests : (a b : Bool) (x y f : TreeFault) (w : Waiting) (more : Result (List Node) TreeFault) →
    cond a (Err x) (cond b (Err y) (ok_waiting w)) ≡ Err f →
    cond a (Err x) (cond b (Err y) more) ≡ Err f
fault_of_tests true b x y f w more e = let same : x ≡ f = cc in ap (λ (g : TreeFault). Err g) same
fault_of_tests false true x y f w more e = let same : y ≡ f = cc in ap (λ (g : TreeFault). Err g) same
fault_of_tests false false x y f w more e = absurd cc

after_tests : (a b : Bool) (x y : TreeFault) (w v : Waiting) (more : Result (List Node) TreeFault) →
    cond a (Err x) (cond b (Err y) (ok_waiting w)) ≡ Ok v →
    (cond a (Err x) (cond b (Err y) more) ≡ more) × (w ≡ v)
after_tests true b x y w v more e = absurd cc
after_tests false true x y w v more e = absurd cc
after_tests false false x y w v more e = (refl, cc)

abbrev pub too_few : ℕ → Node → Bool
too_few found n = ltb found (downs n.ports)

abbrev pub left : ℕ → Node → Bool
left found n = eqb (ups n.ports) 0 && ltb (downs n.ports) found

abbrev pub joined : ℕ → Node → Waiting
joined found n = record { trees = found - downs n.ports + 1; rooted = eqb (ups n.ports) 0 }

pub is_node_fault : (standard : Standard) (quads : List ℕ) (at found : ℕ) (rooted : Bool) (ns : List Node) (n : Node) (f : TreeFault) →
    at < length quads → rooted ≡ false → length ns < 63 → Reads standard quads at found rooted ns →
    read_at standard at (length ns) (drop at quads) ≡ Ok n → after_node at found n ≡ Err f → read standard quads ≡ Err f
is_node_fault standard quads at found rooted ns n f lt is room h e fault =
    sym (unrolled standard quads at found rooted ns lt is room h)
    ∙ rw e (fault_of_tests (too_few found n) (left found n) (TooFewChildren at found (downs n.ports)) (TreesLeft at found (downs n.ports)) f (joined found n)
    (read_from standard (62 - length ns) (at + length (group n (length ns))) (found - downs n.ports + 1) (eqb (ups n.ports) 0) (ns ++ n ∷ []) (drop (length (group n (length ns))) (drop at quads))) fault)

-- the tests of a node that passes them, and what waits after it
passes : (at found : ℕ) (n : Node) (w : Waiting) (more : Result (List Node) TreeFault) →
    after_node at found n ≡ Ok w →
    (cond (too_few found n) (Err (TooFewChildren at found (downs n.ports))) (cond (left found n) (Err (TreesLeft at found (downs n.ports))) more) ≡ more) × (joined found n ≡ w)
passes at found n w more go = after_tests (too_few found n) (left found n) (TooFewChildren at found (downs n.ports)) (TreesLeft at found (downs n.ports)) (joined found n) w more go

pub reads_on : (standard : Standard) (quads : List ℕ) (at found : ℕ) (rooted : Bool) (ns : List Node) (n : Node) (w : Waiting) →
    at < length quads → rooted ≡ false → length ns < 63 → Reads standard quads at found rooted ns →
    read_at standard at (length ns) (drop at quads) ≡ Ok n → after_node at found n ≡ Ok w →
    Reads standard quads (at + length (group n (length ns))) w.trees w.rooted (ns ++ n ∷ [])
reads_on standard quads at found rooted ns n w lt is room h e go =
    let room' : 63 - length (ns ++ n ∷ []) ≡ 62 - length ns = omega (arith, length-append ns (n ∷ [])) in
    let rest : drop (at + length (group n (length ns))) quads ≡ drop (length (group n (length ns))) (drop at quads) = sym (drop-drop (length (group n (length ns))) at quads) in
    let after = passes at found n w (read_from standard (62 - length ns) (at + length (group n (length ns))) (found - downs n.ports + 1) (eqb (ups n.ports) 0) (ns ++ n ∷ []) (drop (length (group n (length ns))) (drop at quads))) go in
    let all : in_group (read_at standard at (length ns) (drop at quads)) (next standard (62 - length ns) at found ns (drop at quads)) ≡ read standard quads = unrolled standard quads at found rooted ns lt is room h in
    rw (room', rest, ← after.1) (sym after.0 ∙ (rw e at all))

pub end_read : (standard : Standard) (room at found : ℕ) (rooted : Bool) (ns : List Node) →
    read_from standard room at found rooted ns [] ≡ ended at rooted ns
unfolding read_from
end_read standard zero at found rooted ns = refl
end_read standard (suc room) at found rooted ns = refl

pub is_end : (standard : Standard) (quads : List ℕ) (at found : ℕ) (rooted : Bool) (ns : List Node) →
    length quads ≤ at → Reads standard quads at found rooted ns →
    read standard quads ≡ ended at rooted ns
is_end standard quads at found rooted ns le h = sym h ∙ rw (drop_all at quads le) (end_read standard (63 - length ns) at found rooted ns)

pub ended_empty : (at : ℕ) (rooted : Bool) (ns : List Node) → rooted ≡ false → length ns ≡ 0 →
    ended at rooted ns ≡ Err Empty
ended_empty at rooted [] e len = rw e refl
ended_empty at rooted (n ∷ ns) e len = absurd (omega arith)

pub ended_unrooted : (at : ℕ) (rooted : Bool) (ns : List Node) → rooted ≡ false → 0 < length ns →
    ended at rooted ns ≡ Err (NoRoot at)
ended_unrooted at rooted [] e some = absurd (omega arith)
ended_unrooted at rooted (n ∷ ns) e some = rw e refl

pub ended_rooted : (at : ℕ) (rooted : Bool) (ns : List Node) → rooted ≡ true →
    ended at rooted ns ≡ Ok ns
ended_rooted at rooted ns e = rw e refl

-- at most one tree more waits
pub few_wait : (at found : ℕ) (n : Node) (w : Waiting) → after_node at found n ≡ Ok w →
    w.trees ≤ found + 1
few_wait at found n w go =
    let trees : found - downs n.ports + 1 ≡ w.trees = ap (λ (v : Waiting). v.trees) (passes at found n w (Ok []) go).1 in
    omega (arith, trees)

-- how many trees wait
pub trees_are : (at found : ℕ) (n : Node) (w : Waiting) → after_node at found n ≡ Ok w →
    w.trees ≡ found - downs n.ports + 1
trees_are at found n w go = sym (ap (λ (v : Waiting). v.trees) (passes at found n w (Ok []) go).1)

-- one more turn of the loop
pub goes_round : (standard : Standard) (quads : List ℕ) (at found place : ℕ) (rooted : Bool) (ns : List Node) (n : Node) (w : Waiting) →
    at < length quads → rooted ≡ false → length ns ≢ 63 →
    Reading standard quads at found rooted ns →
    read_at standard at (length ns) (drop at quads) ≡ Ok n → place ≡ at + length (group n (length ns)) → place ≤ length quads → after_node at found n ≡ Ok w →
    Reading standard quads place w.trees w.rooted (ns ++ n ∷ [])
goes_round standard quads at found place rooted ns n w lt is room h e p in_list go = record {
  inside = in_list;
  room = omega (arith, h.room, length-append ns (n ∷ []));
  few = omega (arith, h.few, length-append ns (n ∷ []), few_wait at found n w go);
  reads = rw p (reads_on standard quads at found rooted ns n w lt is (omega (arith, h.room)) h.reads e go);
}

-- a group that stands there is read
pub takes : (standard : Standard) (quads : List ℕ) (at id place : ℕ) (ns : List Node) (n : Node) →
    id ≡ length ns → length ns < 63 → StandsAt standard quads at id n place →
    read_at standard at (length ns) (drop at quads) ≡ Ok n
takes standard quads at id place ns n same room h =
    let small : length ns ≤ 62 = omega arith in
    ap (read_at standard at (length ns)) h.parts ∙ ap (λ (k : ℕ). read_at standard at (length ns) (group n k ++ drop place quads)) same ∙ read_at-group standard n at (length ns) (drop place quads) h.is_node h.is_of small

pub refuses : (standard : Standard) (quads : List ℕ) (at id : ℕ) (ns : List Node) (f : GroupFault) →
    id ≡ length ns → length ns < 63 → GroupRefused standard at id (drop at quads) f →
    read_at standard at (length ns) (drop at quads) ≡ Err f
refuses standard quads at id ns f same room h =
    let small : id ≤ 62 = omega arith in
    ap (λ (k : ℕ). read_at standard at k (drop at quads)) (sym same) ∙ read_at-refused standard at id (drop at quads) f small h

pub place_is : (standard : Standard) (quads : List ℕ) (at id place : ℕ) (ns : List Node) (n : Node) →
    id ≡ length ns → StandsAt standard quads at id n place →
    place ≡ at + length (group n (length ns))
place_is standard quads at id place ns n same h = h.place ∙ ap (λ (k : ℕ). at + length (group n k)) same

pub moves : (standard : Standard) (quads : List ℕ) (at id place : ℕ) (n : Node) →
    StandsAt standard quads at id n place → at < place
moves standard quads at id place n h = let some = (length-group n id h.is_node).0 in omega (arith, h.place)
