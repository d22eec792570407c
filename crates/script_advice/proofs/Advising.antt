-- An advice, component by component.
use Rattle.std.proofs.Common.{◌≡◌, ℕ, suc, inl, inr, List, [], ◌∷◌, ◌++◌, map, refl, sym, ◌∙◌, ap, subst, append-nil, append_assoc, arith}
use Rattle.std.proofs.lemmas.List.{map-append}
use Rattle.std.specs.Prelude.{All, AllPairs, Some}
use Rattle.std.proofs.lemmas.List.Elements.{All-cons, All-nil, All-push, All-tail}
use Rattle.cabling.specs.declared.cable.Cable.{Cable}
use Rattle.cabling.specs.Wiring.{Wiring, IsCabling, far}
use Rattle.cabling.specs.NodeSet.{Nodes, Holds}
use Rattle.cabling.proofs.Lemmas.{component_within, shared}
use Rattle.loop_advice.specs.Cables.{Lists, HasNoneTwice, IsCableOf}
use Rattle.loop_advice.proofs.Lemmas.{rising_once, lists_append, lists_left}
use Rattle.settle.specs.declared.report.Outcome.{Outcome}
use Rattle.settle.specs.declared.report.Outcome.TheVariants as reported
use Rattle.settle.specs.declared.report.Part.{Part}
use Rattle.settle.specs.Report.{StartsBefore}
use Rattle.script_advice.specs.declared.advice.LoopAdvice.{LoopAdvice}
use Rattle.script_text.specs.ReportText.{Names, AreNamed}
use Rattle.script_advice.specs.Advice.{if_loop, loops_of, IsAdviceFor, AreAdvices, all_pulls}
use Rattle.script_advice.specs.Advising.{IsPartOf, IsNamedCable, IsNamedAdvice, ArePullable}

abbrev nodes-of : List LoopAdvice → List Nodes
nodes-of advices = map (λ (a : LoopAdvice). a.nodes) advices

-- ---- the list is made

pub loops-more :
    (parts : List Part) (p : Part) →
    loops_of (parts ++ p ∷ []) ≡ loops_of parts ++ if_loop p.outcome p.nodes
loops-more [] p = append-nil (if_loop p.outcome p.nodes)
loops-more (q ∷ parts) p =
    ap (λ (s : List Nodes). if_loop q.outcome q.nodes ++ s) (loops-more parts p)
    ∙ sym (append_assoc (if_loop q.outcome q.nodes) (loops_of parts) (if_loop p.outcome p.nodes))

pub one-advice :
    (c : Wiring) (sets : List Nodes) (o : Outcome) (core : Nodes) (old new : List LoopAdvice)
    (a : LoopAdvice) → o ≡ reported.Loop core → IsAdviceFor c a → new ≡ old ++ a ∷ [] →
    AreAdvices c sets old → AreAdvices c (sets ++ if_loop o a.nodes) new
one-advice c sets o core old new a is for new_is so = record {
  each = subst (All (IsAdviceFor c)) (sym new_is) (All-push (IsAdviceFor c) old a so.each for);
  are =
      ap nodes-of new_is
      ∙ map-append (λ (x : LoopAdvice). x.nodes) old (a ∷ [])
      ∙ ap (λ (s : List Nodes). s ++ a.nodes ∷ []) so.are
      ∙ ap (λ (r : Outcome). sets ++ if_loop r a.nodes) (sym is);
}

-- ---- what holds of each component holds of each that is advised

pub all-loops :
    (P : Nodes → Type 0) (parts : List Part) → All (λ (part : Part). P part.nodes) parts →
    All P (loops_of parts)
all-loops P [] h = All-nil P
all-loops P (p ∷ parts) h =
    go p.outcome (h 0 p (omega arith)) (all-loops P parts (All-tail (λ (part : Part). P part.nodes) p parts h))
  where
    go : (o : Outcome) → P p.nodes → All P (loops_of parts) → All P (if_loop o p.nodes ++ loops_of parts)
    go (reported.Loop core) one rest = All-cons P p.nodes (loops_of parts) one rest
    go (reported.Tree root list order) one rest = rest
    go (reported.Contention a b) one rest = rest

pub all-nodes :
    (P : Nodes → Type 0) (advices : List LoopAdvice) → All P (nodes-of advices) →
    All (λ (a : LoopAdvice). P a.nodes) advices
all-nodes P [] h = All-nil (λ (a : LoopAdvice). P a.nodes)
all-nodes P (a ∷ advices) h =
    All-cons (λ (x : LoopAdvice). P x.nodes) a advices (h 0 a.nodes (omega arith))
    (all-nodes P advices (All-tail P a.nodes (nodes-of advices) h))

-- ---- names

-- a cable of the component has both ends there
pub ends-there :
    (c : Wiring) (a : LoopAdvice) (x : Cable) → IsAdviceFor c a →
    Lists (a.advice.pulls ++ a.advice.kept) x →
    (far c x.a ≡ Some x.b) × Holds a.nodes x.a.node × Holds a.nodes x.b.node
ends-there c a x for l =
    let of : IsCableOf c a.nodes x = (for.advised.each.all x).0 l in
    (of.joined, of.here, for.component.closed x.a x.b of.joined of.here)

all-listed :
    (P : Cable → Type 0) (xs : List Cable) → ((x : Cable) → Lists xs x → P x) → All P xs
all-listed P [] h = All-nil P
all-listed P (x ∷ xs) h =
    All-cons P x xs (h x (inl (inl refl))) (all-listed P xs (λ y l. h y (inr l)))

named-one :
    (c : Wiring) (names : Names) (a : LoopAdvice) → IsAdviceFor c a → AreNamed names a.nodes →
    IsNamedAdvice names a
named-one c names a for named = record {
  nodes = named;
  cables = all-listed (IsNamedCable names) a.advice.pulls (λ x l.
      let there = ends-there c a x for (lists_left a.advice.pulls a.advice.kept x l) in
      (named x.a.node there.1, named x.b.node there.2));
}

both-all :
    (c : Wiring) (names : Names) (advices : List LoopAdvice) → All (IsAdviceFor c) advices →
    All (λ (a : LoopAdvice). AreNamed names a.nodes) advices → All (IsNamedAdvice names) advices
both-all c names advices for named = λ i d within. named-one c names _ (for i d within) (named i d within)

pub named-advices :
    (c : Wiring) (names : Names) (parts : List Part) (advices : List LoopAdvice) →
    AreAdvices c (loops_of parts) advices → All (λ (p : Part). AreNamed names p.nodes) parts →
    All (IsNamedAdvice names) advices
named-advices c names parts advices are named =
    both-all c names advices are.each
    (all-nodes (AreNamed names) advices
    (subst (All (AreNamed names)) (sym are.are) (all-loops (AreNamed names) parts named)))

-- ---- two components have no node in common

abbrev Apart : Nodes → Nodes → Type 0
Apart set other = (k : ℕ) → Holds set k → Holds other k → ⊥

abbrev AreApart : List Nodes → Type 0
AreApart [] = Unit {0}
AreApart (set ∷ sets) = All (Apart set) sets × AreApart sets

parts-apart :
    (c : Wiring) (p q : Part) → IsCabling c → IsPartOf c p → IsPartOf c q → StartsBefore p q →
    Apart p.nodes q.nodes
parts-apart c p q is of_p of_q starts k at_p at_q =
    let in_q : Holds q.nodes starts.least =
    component_within c k p.nodes q.nodes (shared c of_p.node k p.nodes is of_p.component at_p)
    (shared c of_q.node k q.nodes is of_q.component at_q) starts.least starts.holds in
    omega (arith, starts.below starts.least in_q)

apart-loops :
    (c : Wiring) (parts : List Part) → IsCabling c → All (IsPartOf c) parts →
    AllPairs StartsBefore parts → AreApart (loops_of parts)
apart-loops c [] is of rise = tt
apart-loops c (p ∷ parts) is of rise =
    go p.outcome
    (all-loops (Apart p.nodes) parts (λ i d within.
    parts-apart c p _ is (of 0 d (omega arith)) (of (suc i) d (omega (arith, within)))
    (rise 0 (suc i) d (omega arith) (omega (arith, within)))))
    (apart-loops c parts is (All-tail (IsPartOf c) p parts of)
    (λ i j d less inside. rise (suc i) (suc j) d (omega (arith, less)) (omega (arith, inside))))
  where
    go : (o : Outcome) → All (Apart p.nodes) (loops_of parts) → AreApart (loops_of parts) → AreApart (if_loop o p.nodes ++ loops_of parts)
    go (reported.Loop core) one rest = (one, rest)
    go (reported.Tree root list order) one rest = rest
    go (reported.Contention a b) one rest = rest

-- ---- the pulls

once-pullable :
    (c : Wiring) (xs : List Cable) → HasNoneTwice xs →
    ((x : Cable) → Lists xs x → far c x.a ≡ Some x.b) → ArePullable c xs
once-pullable c [] once at = tt
once-pullable c (x ∷ xs) once at =
    (at x (inl (inl refl)), once.0, once-pullable c xs once.1 (λ y l. at y (inr l)))

both-pullable :
    (c : Wiring) (xs ys : List Cable) → ArePullable c xs → ArePullable c ys →
    ((x : Cable) → Lists xs x → Lists ys x → ⊥) → ArePullable c (xs ++ ys)
both-pullable c [] ys h k out = k
both-pullable c (x ∷ xs) ys h k out = (
  h.0,
  (λ l. elim (lists_append xs ys x l) [ inl in_xs ↦ h.1 in_xs | inr in_ys ↦ out x (inl (inl refl)) in_ys ]),
  both-pullable c xs ys h.2 k (λ y l m. out y (inr l) m),
)

-- a cable of another component isn't pulled for these
out-of :
    (c : Wiring) (set : Nodes) (x : Cable) (advices : List LoopAdvice) →
    All (IsAdviceFor c) advices → All (Apart set) (nodes-of advices) → Holds set x.a.node →
    Lists (all_pulls advices) x → ⊥
out-of c set x [] for off at l = l
out-of c set x (a ∷ advices) for off at l = elim (lists_append a.advice.pulls (all_pulls advices) x l) [
  | inl here ↦
      off 0 a.nodes (omega arith) x.a.node at
      (ends-there c a x (for 0 a (omega arith)) (lists_left a.advice.pulls a.advice.kept x here)).1
  | inr there ↦
      out-of c set x advices (All-tail (IsAdviceFor c) a advices for)
      (All-tail (Apart set) a.nodes (nodes-of advices) off) at there
]

pullable-pulls :
    (c : Wiring) (advices : List LoopAdvice) → All (IsAdviceFor c) advices →
    AreApart (nodes-of advices) → ArePullable c (all_pulls advices)
pullable-pulls c [] for off = tt
pullable-pulls c (a ∷ advices) for off =
    let one : IsAdviceFor c a = for 0 a (omega arith) in
    let rest : All (IsAdviceFor c) advices = All-tail (IsAdviceFor c) a advices for in
    both-pullable c a.advice.pulls (all_pulls advices)
    (once-pullable c a.advice.pulls (rising_once a.advice.pulls one.advised.pulls_rise)
    (λ x l. (ends-there c a x one (lists_left a.advice.pulls a.advice.kept x l)).0))
    (pullable-pulls c advices rest off.1)
    (λ x l m. out-of c a.nodes x advices rest off.0
    (ends-there c a x one (lists_left a.advice.pulls a.advice.kept x l)).1 m)

-- all advised cables can be pulled, one after the other
pub all-pullable :
    (c : Wiring) (parts : List Part) (advices : List LoopAdvice) → IsCabling c →
    All (IsPartOf c) parts → AllPairs StartsBefore parts → AreAdvices c (loops_of parts) advices →
    ArePullable c (all_pulls advices)
all-pullable c parts advices is of rise are =
    pullable-pulls c advices are.each (subst AreApart (sym are.are) (apart-loops c parts is of rise))
