-- No script has two advices.
use Rattle.std.proofs.Common.{◌≡◌, ◌++◌, inl, inr, ℕ, ◌+◌, ◌<◌, List, [], ◌∷◌, Option, Some, length, map, refl, sym, ◌∙◌, ap, subst, arith}
use Rattle.std.specs.Prelude.{All, Result, Ok, Err, IfOk}
use Rattle.std.proofs.lemmas.List.Elements.{All-tail}
use Rattle.topology_stack.specs.OneAnswer.{NoListHasTwoTrees}
use Rattle.cabling.specs.declared.cable.Cable.{Cable}
use Rattle.cabling.specs.Wiring.{Wiring}
use Rattle.cabling.specs.NodeSet.{Nodes}
use Rattle.cable_world.specs.declared.act.Act.TheVariants.{Pull}
use Rattle.cable_world.specs.Unchanged.{ActKeepsNodes}
use Rattle.cable_world.proofs.Lemmas.{reached-lawful}
use Rattle.loop_advice.specs.Cables.{Lists}
use Rattle.loop_advice.specs.Order.{ComesBefore, ComesBeforeAll, AreRising}
use Rattle.loop_advice.specs.Advised.{AreAdvised, IsLowFirst}
use Rattle.loop_advice.proofs.Lemmas.{same_low, lists_left, lists_right}
use Rattle.settle.specs.declared.report.Report.{Report}
use Rattle.script_advice.specs.declared.advice.LoopAdvice.{LoopAdvice}
use Rattle.script_lines.specs.declared.kind.ScriptFault.{ScriptFault}
use Rattle.script_told.specs.Bus.{Bus}
use Rattle.script_told.specs.Step.{LineAnswer, DoesSettle}
use Rattle.script_told.specs.Script.{ScriptResult}
use Rattle.script_told.specs.Run.{ScriptRun, IsResult, printed, unless_stopped, result_of}
use Rattle.script_advice.specs.Advice.{RunsTo, loops_of, IsAdviceFor, all_pulls, PullsLead, advice_text, after_text, Advises, told_at_end, AdvisesAtEnd}
use Rattle.script_advice.specs.OneAdvice.{ScriptsHaveOneAdvice}
use Rattle.script_told.proofs.Lemmas.{IsCabled, acts, settles, bus-in, one-run, one-told, same-report, IsEnd, each-done}

-- ---- the bus at the end

-- a run that told a text came to the end
pub no-fault : (f : ScriptFault) (text : List ℕ) (A : Type 0) → Ok text ≡ Err f → A
no-fault f text A e = absurd cc

one-bus :
    NoListHasTwoTrees → ActKeepsNodes → (bytes : List ℕ) (a b : Bus) → RunsTo bytes a → RunsTo bytes b →
    a ≡ b
one-bus trees keeps bytes a b x y = same a b (sym x.2 ∙ ap (λ (r : ScriptRun). r.end) (one-run trees keeps bytes x.0 y.0 x.1 y.1) ∙ y.2)
  where
    same : (u v : Bus) → ◌≡◌ {A = Result Bus ScriptFault} (Ok u) (Ok v) → u ≡ v
    same u v e = cc

-- and it was reported
pub end-of :
    NoListHasTwoTrees → ActKeepsNodes → (bytes : List ℕ) (bus : Bus) → RunsTo bytes bus → IsEnd bus
end-of trees keeps bytes bus x = go x.0.end (each-done trees keeps bytes x.0 x.1).end x.2
  where
    go : (end : Result Bus ScriptFault) → IfOk end IsEnd → end ≡ Ok bus → IsEnd bus
    go end h e = subst (λ (r : Result Bus ScriptFault). IfOk r IsEnd) e h

pub end-cabled :
    NoListHasTwoTrees → ActKeepsNodes → (bytes : List ℕ) (bus : Bus) → RunsTo bytes bus →
    IsCabled bus.world
end-cabled trees keeps bytes bus x =
    (reached-lawful bus.world (end-of trees keeps bytes bus x).reached.reached).well_formed.cabling

-- ---- one list of cables

-- each cable of the one list is in the other, where it has its lower end first
abbrev AreIn : List Cable → List Cable → Type 0
AreIn xs ys = (z : Cable) → z.a.node < z.b.node → Lists xs z → Lists ys z

not-both : (x y : Cable) → ComesBefore x.a y.a → ComesBefore y.a x.a → ⊥
not-both x y (inl a) (inl b) = omega (arith, a, b)
not-both x y (inl a) (inr b) = let e = b.0 in omega (arith, a, e)
not-both x y (inr a) (inl b) = let e = a.0 in omega (arith, b, e)
not-both x y (inr a) (inr b) = let p = a.1 in let q = b.1 in omega (arith, p, q)

-- a cable of a list that rises behind an end
comes-later :
    (x z : Cable) (xs : List Cable) → AreRising xs → ComesBeforeAll x.a xs → z.a.node < z.b.node →
    Lists xs z → ComesBefore x.a z.a
comes-later x z [] rise after low l = absurd l
comes-later x z (y ∷ ys) rise after low (inl s) =
    let e : z ≡ y = same_low y z rise.0 low s in
    subst (λ (c : Cable). ComesBefore x.a c.a) (sym e) after.0
comes-later x z (y ∷ ys) rise after low (inr l) = comes-later x z ys rise.2 after.1 low l

same-head :
    (x y : Cable) (xs ys : List Cable) → AreRising (x ∷ xs) → AreRising (y ∷ ys) →
    Lists (y ∷ ys) x → Lists (x ∷ xs) y → x ≡ y
same-head x y xs ys r s (inl e) k = same_low y x s.0 r.0 e
same-head x y xs ys r s (inr l) (inl e) = sym (same_low x y r.0 s.0 e)
same-head x y xs ys r s (inr l) (inr k) =
    absurd (not-both x y (comes-later x y xs r.2 r.1 s.0 k) (comes-later y x ys s.2 s.1 r.0 l))

tail-in :
    (x : Cable) (xs ys : List Cable) → AreRising (x ∷ xs) → AreIn (x ∷ xs) (x ∷ ys) → AreIn xs ys
tail-in x xs ys rise in_all z low l = elim (in_all z low (inr l)) [
  | inl s ↦
      let e : z ≡ x = same_low x z rise.0 low s in
      let late : ComesBefore x.a z.a = comes-later x z xs rise.2 rise.1 low l in
      let self : ComesBefore x.a x.a = subst (λ (c : Cable). ComesBefore x.a c.a) e late in
      absurd (not-both x x self self)
  | inr k ↦ k
]

no-more : (y : Cable) (ys : List Cable) → AreRising (y ∷ ys) → AreIn (y ∷ ys) [] → ⊥
no-more y ys rise in_all = in_all y rise.0 (inl (inl refl))

same-list : (xs ys : List Cable) → AreRising xs → AreRising ys → AreIn xs ys → AreIn ys xs → xs ≡ ys
same-list [] [] r s p q = refl
same-list [] (y ∷ ys) r s p q = absurd (no-more y ys s q)
same-list (x ∷ xs) [] r s p q = absurd (no-more x xs r p)
same-list (x ∷ xs) (y ∷ ys) r s p q =
    let head : x ≡ y = same-head x y xs ys r s (p x r.0 (inl (inl refl))) (q y s.0 (inl (inl refl))) in
    let rise : AreRising (x ∷ ys) = subst (λ (c : Cable). AreRising (c ∷ ys)) (sym head) s in
    let there : AreIn (x ∷ xs) (x ∷ ys) = subst (λ (c : Cable). AreIn (x ∷ xs) (c ∷ ys)) (sym head) p in
    let back : AreIn (x ∷ ys) (x ∷ xs) = subst (λ (c : Cable). AreIn (c ∷ ys) (x ∷ xs)) (sym head) q in
    ap (λ (c : Cable). c ∷ xs) head
    ∙ ap (λ (zs : List Cable). y ∷ zs)
    (same-list xs ys r.2 s.2 (tail-in x xs ys r there) (tail-in x ys xs rise back))

-- ---- one advice

pulls-in :
    (c : Wiring) (set : Nodes) (p k q l : List Cable) → AreAdvised c set p k → AreAdvised c set q l →
    AreIn p q
pulls-in c set p k q l x y z low in_p =
    let is : IsLowFirst c set z = record { of_set = (x.each.all z).0 (lists_left p k z in_p); low = low } in
    (y.pulled z is).1 ((x.pulled z is).0 in_p)

kept-in :
    (c : Wiring) (set : Nodes) (p k q l : List Cable) → AreAdvised c set p k → AreAdvised c set q l →
    AreIn k l
kept-in c set p k q l x y z low in_k =
    let is : IsLowFirst c set z = record { of_set = (x.each.all z).0 (lists_right p k z in_k); low = low } in
    (y.left z is).1 ((x.left z is).0 in_k)

advice-of : Nodes → List Cable → List Cable → LoopAdvice
advice-of nodes pulls kept = record { nodes = nodes; advice = record { pulls = pulls; kept = kept } }

same-advice : (c : Wiring) (a b : LoopAdvice) → a.nodes ≡ b.nodes → IsAdviceFor c a →
    IsAdviceFor c b → a ≡ b
unfolding advice-of
same-advice c a b nodes x y =
    let other : AreAdvised c a.nodes b.advice.pulls b.advice.kept =
    subst (λ (set : Nodes). AreAdvised c set b.advice.pulls b.advice.kept) (sym nodes) y.advised in
    let pulls : a.advice.pulls ≡ b.advice.pulls =
    same-list a.advice.pulls b.advice.pulls x.advised.pulls_rise other.pulls_rise
    (pulls-in c a.nodes a.advice.pulls a.advice.kept b.advice.pulls b.advice.kept x.advised other)
    (pulls-in c a.nodes b.advice.pulls b.advice.kept a.advice.pulls a.advice.kept other x.advised) in
    let kept : a.advice.kept ≡ b.advice.kept =
    same-list a.advice.kept b.advice.kept x.advised.kept_rise other.kept_rise
    (kept-in c a.nodes a.advice.pulls a.advice.kept b.advice.pulls b.advice.kept x.advised other)
    (kept-in c a.nodes b.advice.pulls b.advice.kept a.advice.pulls a.advice.kept other x.advised) in
    ap (λ (n : Nodes). advice-of n a.advice.pulls a.advice.kept) nodes
    ∙ ap (λ (l : List Cable). advice-of b.nodes l a.advice.kept) pulls
    ∙ ap (advice-of b.nodes b.advice.pulls) kept

abbrev nodes-of : List LoopAdvice → List Nodes
nodes-of advices = map (λ (a : LoopAdvice). a.nodes) advices

same-advices :
    (c : Wiring) (xs ys : List LoopAdvice) → All (IsAdviceFor c) xs → All (IsAdviceFor c) ys →
    nodes-of xs ≡ nodes-of ys → xs ≡ ys
same-advices c [] [] p q e = refl
same-advices c [] (y ∷ ys) p q e = absurd cc
same-advices c (x ∷ xs) [] p q e = absurd cc
same-advices c (x ∷ xs) (y ∷ ys) p q e =
    let head : x.nodes ≡ y.nodes = cc in
    let tail : nodes-of xs ≡ nodes-of ys = cc in
    ap (λ (a : LoopAdvice). a ∷ xs) (same-advice c x y head (p 0 x (omega arith)) (q 0 y (omega arith)))
    ∙ ap (λ (zs : List LoopAdvice). y ∷ zs)
    (same-advices c xs ys (All-tail (IsAdviceFor c) x xs p) (All-tail (IsAdviceFor c) y ys q) tail)

one-advices : (bus : Bus) (r s : LineAnswer) → (x : Advises bus r) → (y : Advises bus s) →
    x.advices ≡ y.advices
one-advices bus r s x y =
    let report : x.report ≡ y.report = same-report bus.notes.report x.report y.report x.last y.last in
    same-advices bus.world.cabling x.advices y.advices x.are.each y.are.each
    (x.are.are ∙ ap (λ (z : Report). loops_of z.parts) report ∙ sym y.are.are)

-- ---- one bus once the cables are pulled

one-pulled :
    (bus a b : Bus) (cables : List Cable) → IsCabled bus.world → PullsLead bus cables a →
    PullsLead bus cables b → (a ≡ b) × IsCabled a.world
one-pulled bus a b [] h x y =
    (x ∙ sym y, subst (λ (u : Bus). IsCabled u.world) (sym x) h)
one-pulled bus a b (c ∷ cables) h x y =
    let one = acts bus (Pull c.a) h (Ok (x.0, [])) (Ok (y.0, [])) x.1 y.1 in
    let same : x.0 ≡ y.0 = ap (bus-in x.0) one.0 in
    one-pulled x.0 a b cables one.1 x.2 (subst (λ (u : Bus). PullsLead u cables b) (sym same) y.2)

one-answer :
    NoListHasTwoTrees → (bus : Bus) (r s : LineAnswer) → IsCabled bus.world → Advises bus r →
    Advises bus s → r ≡ s
one-answer trees bus r s h x y =
    let advices : x.advices ≡ y.advices = one-advices bus r s x y in
    let pulled = one-pulled bus x.pulled y.pulled (all_pulls x.advices) h x.pulls
    (subst (λ (l : List LoopAdvice). PullsLead bus (all_pulls l) y.pulled) (sym advices) y.pulls) in
    let settled = settles trees x.pulled pulled.1 x.settled y.settled x.settles
    (subst (λ (u : Bus). DoesSettle u y.settled) (sym pulled.0) y.settles) in
    x.answer_is
    ∙ ap (λ (l : List LoopAdvice). after_text (advice_text bus.notes.names l) x.settled) advices
    ∙ ap (after_text (advice_text bus.notes.names y.advices)) settled.0
    ∙ sym y.answer_is

-- ---- the whole

-- a script that runs to its end has no fault
no-script-fault :
    NoListHasTwoTrees → ActKeepsNodes → (bytes : List ℕ) (bus : Bus) (f : ScriptFault) →
    RunsTo bytes bus → IsResult bytes (Err f) → ⊥
no-script-fault trees keeps bytes bus f x y =
    let run : y.0 ≡ x.0 = one-run trees keeps bytes y.0 x.0 y.1 x.1 in
    no-fault f (printed x.0.entries) ⊥
    (sym (y.2 ∙ ap result_of run ∙ ap (unless_stopped (printed x.0.entries)) x.2))

one-end-advice :
    NoListHasTwoTrees → ActKeepsNodes → (bytes : List ℕ) (one other : ScriptResult) →
    AdvisesAtEnd bytes one →
    AdvisesAtEnd bytes other → one ≡ other
one-end-advice trees keeps bytes one other x y =
    let bus : x.bus ≡ y.bus = one-bus trees keeps bytes x.bus y.bus x.ran y.ran in
    let same : x.answer ≡ y.answer =
    one-answer trees x.bus x.answer y.answer (end-cabled trees keeps bytes x.bus x.ran) x.advises
    (subst (λ (u : Bus). Advises u y.answer) (sym bus) y.advises) in
    x.is ∙ ap (told_at_end bytes) same ∙ sym y.is

pub one-script-advice : NoListHasTwoTrees → ActKeepsNodes → ScriptsHaveOneAdvice
one-script-advice trees keeps bytes one other (inl x) (inl y) =
    x.is ∙ one-told trees keeps bytes (Err x.fault) (Err y.fault) x.told_so y.told_so ∙ sym y.is
one-script-advice trees keeps bytes one other (inl x) (inr y) =
    absurd (no-script-fault trees keeps bytes y.bus x.fault y.ran x.told_so)
one-script-advice trees keeps bytes one other (inr x) (inl y) =
    absurd (no-script-fault trees keeps bytes x.bus y.fault x.ran y.told_so)
one-script-advice trees keeps bytes one other (inr x) (inr y) = one-end-advice trees keeps bytes one other x y
