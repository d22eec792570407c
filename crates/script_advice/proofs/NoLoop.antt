-- An advice leaves no loop.
use Rattle.std.proofs.Common.{◌≡◌, ◌++◌, ◌⊎◌, inl, inr, ℕ, zero, suc, ◌+◌, ◌^◌, ◌<◌, get_or, List, [], ◌∷◌, Some, Bool, true, false, length, map, refl, sym, ◌∙◌, ap, subst, arith}
use Rattle.std.specs.Prelude.{All, MatchBool, nat_lt, Ok, Err}
use Rattle.std.proofs.lemmas.List.Elements.{All-tail}
use Rattle.topology_stack.specs.OneAnswer.{NoListHasTwoTrees}
use Rattle.cabling.specs.declared.cable.End.{End}
use Rattle.cabling.specs.declared.cable.Cable.{Cable}
use Rattle.cabling.specs.Wiring.{Wiring, far}
use Rattle.cabling.specs.NodeSet.{Nodes, Holds, IsWithin}
use Rattle.cabling.specs.Component.{IsComponent}
use Rattle.cabling.specs.Looped.{HasTwo, IsLooped}
use Rattle.cabling.specs.Change.{TakenOut}
use Rattle.cabling.proofs.Lemmas.{none_some, same_length, shared, was-there, small-set}
use Rattle.cable_world.specs.World.{CableWorld}
use Rattle.cable_world.specs.Turn.{turns_after}
use Rattle.cable_world.specs.Outcome.{HasNoLoop, OneOutcomeAtMost}
use Rattle.cable_world.proofs.Lemmas.{turns-cabling}
use Rattle.loop_advice.specs.Cables.{Lists, IsSame}
use Rattle.loop_advice.proofs.Lemmas.{lists_left, lists_right, cable, Without, no_loop_left}
use Rattle.settle.specs.declared.report.Outcome.{Outcome}
use Rattle.settle.specs.declared.report.Outcome.TheVariants as reported
use Rattle.settle.specs.declared.report.Part.{Part}
use Rattle.settle.specs.declared.report.Report.{Report}
use Rattle.settle.specs.Report.{IsPart, IsReport, quiet_turns_of}
use Rattle.settle.specs.Reported.{IsReported}
use Rattle.script_advice.specs.declared.advice.LoopAdvice.{LoopAdvice}
use Rattle.script_lines.specs.declared.kind.Kind.TheVariants as Kind
use Rattle.script_told.specs.Bus.{Bus, Notes}
use Rattle.script_told.specs.Step.{LineAnswer, Reports, DoesSettle}
use Rattle.script_advice.specs.Advice.{RunsTo, told_at_end, if_loop, loops_of, IsAdviceFor, AreAdvices, all_pulls, PullsLead, advice_text, after_text, Advises, IsAdvice, IsReportedLoop, ReportsNoLoop, EndsWithoutLoop}
use Rattle.script_advice.specs.OneAdvice.{AdvicesLeaveNoLoop, AdvicesEndWithoutLoop}
use Rattle.script_advice.specs.Advising.{ArePullable, EndsWith}
use Rattle.script_advice.proofs.Pulling.{pull-taken, next-pullable}
use Rattle.script_advice.proofs.Settled.{reported-pullable}
use Rattle.script_told.proofs.Lemmas.{text-in, IsCabled, bus-in, do-act, do-settle, Says, is-none, same-report, settles-say, settled-so}
use Rattle.script_advice.proofs.OneAdvice.{end-of, end-cabled, no-fault}
use Rattle.script_told.specs.SomeAnswer.{IsReachedBus}
use Rattle.settle.specs.ReadBack.{ListsAreReadBack}
use Rattle.settle.specs.ReportedOutcome.{ReportedIsOutcome}
use Rattle.cable_world.specs.declared.act.Act.TheVariants.{Pull}
use Rattle.cable_world.specs.Unchanged.{ActKeepsNodes}

-- ---- what settling leaves

-- what a settle answers is what is reported
record HasSettled (bus after : Bus) (text : List ℕ) : Type 0 where
  report : Report
  world : after.world ≡ turns_after (quiet_turns_of bus.world) bus.world
  is : IsReport after.world report
  last : after.notes.report ≡ Some report

has-settled : (bus after : Bus) (text : List ℕ) → DoesSettle bus (Ok (after, text)) →
    HasSettled bus after text
has-settled bus after text = go (nat_lt 2000000 (bus.world.turns + quiet_turns_of bus.world))
  where
    go : (past : Bool) → MatchBool past (◌≡◌ {A = LineAnswer} (Ok (after, text)) (Err Kind.TooManyTurns)) (Reports bus (Ok (after, text))) → HasSettled bus after text
    go true e = absurd cc
    go false is = record {
      report = is.0;
      world = is.1;
      is = is.2;
      last = ap (λ (n : Notes). n.report) is.3;
    }

-- ---- what pulls leave

-- after these cables were pulled
record Pulled (old new : Wiring) (cables : List Cable) : Type 0 where
  without : Without old new cables
  size : length new ≡ length old

-- the cable that was taken out is gone
is-gone : (old new : Wiring) (x : Cable) (a b : End) → TakenOut old new x.a x.b →
    far new a ≡ Some b → IsSame (cable a b) x → ⊥
is-gone old new x a b t h (inl e) =
    none_some (far new a) b (ap (far new) (ap (λ (c : Cable). c.a) e) ∙ t.free_a) h
is-gone old new x a b t h (inr e) =
    none_some (far new a) b (ap (far new) (ap (λ (c : Cable). c.a) e) ∙ t.free_b) h

pulled : (bus after : Bus) (cables : List Cable) → IsCabled bus.world →
    ArePullable bus.world.cabling cables → PullsLead bus cables after →
    Pulled bus.world.cabling after.world.cabling cables
pulled bus after [] h p leads =
    subst (λ (u : Bus). Pulled bus.world.cabling u.world.cabling []) (sym leads)
    (record { without = record { within = λ a b e. e; gone = λ a b e l. l }; size = refl })
pulled bus after (x ∷ cables) h p leads =
    let next = next-pullable bus.world leads.0.world x cables h p leads.1.1 in
    let rest = pulled leads.0 after cables next.0 next.1 leads.2 in
    let taken = pull-taken x.a x.b bus.world leads.0.world p.0 h leads.1.1 in
    let was : (a b : End) → far leads.0.world.cabling a ≡ Some b → far bus.world.cabling a ≡ Some b = was-there bus.world.cabling leads.0.world.cabling x.a x.b taken in
    record {
      without = record {
        within = λ a b e. was a b (rest.without.within a b e);
        gone = λ a b e l. elim l [
          | inl s ↦ is-gone bus.world.cabling leads.0.world.cabling x a b taken (rest.without.within a b e) s
          | inr k ↦ rest.without.gone a b e k
        ];
      };
      size = rest.size ∙ same_length bus.world.cabling leads.0.world.cabling taken.others.ports;
    }

-- of fewer cables, too
fewer : (old new : Wiring) (some all : List Cable) → Without old new all →
    ((z : Cable) → Lists some z → Lists all z) → Without old new some
fewer old new some all w up = record { within = w.within; gone = λ a b e l. w.gone a b e (up (cable a b) l) }

-- two cables that are left were there
two-before : (old new : Wiring) (set x : ℕ) →
    ((a b : End) → far new a ≡ Some b → far old a ≡ Some b) → HasTwo new set x → HasTwo old set x
two-before old new set x was two = record {
  low = two.low;
  high = two.high;
  apart = two.apart;
  low_leads = (two.low_leads.0, was _ _ two.low_leads.1, two.low_leads.2);
  high_leads = (two.high_leads.0, was _ _ two.high_leads.1, two.high_leads.2);
}

-- ---- the advice for a component

record AdviceOf (c : Wiring) (set : Nodes) (pulls : List Cable) : Type 0 where
  a : LoopAdvice
  for : IsAdviceFor c a
  nodes : a.nodes ≡ set
  among : (z : Cable) → Lists a.advice.pulls z → Lists pulls z

abbrev nodes-of : List LoopAdvice → List Nodes
nodes-of advices = map (λ (a : LoopAdvice). a.nodes) advices

-- a list has a set
In : Nodes → List Nodes → Type 0
In set [] = ⊥
In set (s ∷ sets) = (set ≡ s) ⊎ In set sets

in-right : (set : Nodes) (one two : List Nodes) → In set two → In set (one ++ two)
unfolding In
in-right set [] two i = i
in-right set (s ∷ one) two i = inr (in-right set one two i)

-- a part that is a loop is among the loops
part-in : (parts : List Part) (i : ℕ) (d : Part) (core : Nodes) → i < length parts →
    (get_or parts i d).outcome ≡ reported.Loop core → In (get_or parts i d).nodes (loops_of parts)
unfolding In
part-in [] i d core within is = absurd (omega (arith, within))
part-in (p ∷ parts) zero d core within is =
    subst (λ (o : Outcome). In p.nodes (if_loop o p.nodes ++ loops_of parts)) (sym is) (inl refl)
part-in (p ∷ parts) (suc i) d core within is =
    in-right (get_or parts i d).nodes (if_loop p.outcome p.nodes) (loops_of parts)
    (part-in parts i d core (omega (arith, within)) is)

find-advice : (c : Wiring) (set : Nodes) (advices : List LoopAdvice) → All (IsAdviceFor c) advices →
    In set (nodes-of advices) → AdviceOf c set (all_pulls advices)
unfolding In
find-advice c set [] for i = absurd i
find-advice c set (a ∷ advices) for (inl e) = record {
  a = a;
  for = for 0 a (omega arith);
  nodes = sym e;
  among = λ z l. lists_left a.advice.pulls (all_pulls advices) z l;
}
find-advice c set (a ∷ advices) for (inr i) =
    let rest = find-advice c set advices (All-tail (IsAdviceFor c) a advices for) i in
    record {
      a = rest.a;
      for = rest.for;
      nodes = rest.nodes;
      among = λ z l. lists_right a.advice.pulls (all_pulls advices) z (rest.among z l);
    }

-- ---- no loop

-- no part of a component is looped in the end
abbrev NoneLooped : Wiring → Nodes → Type 0
NoneLooped c set = (part x : ℕ) → IsWithin part set → IsLooped c part → Holds part x → ⊥

advised-fine : (old new : Wiring) (set : Nodes) (pulls : List Cable) → set < 2 ^ 63 →
    Without old new pulls → AdviceOf old set pulls → NoneLooped new set
advised-fine old new set pulls small w f part x inside looped h =
    let node = f.for.node in
    let is : IsComponent old node set = subst (IsComponent old node) f.nodes f.for.component in
    no_loop_left old new node f.a.advice.pulls f.a.advice.kept set part x small f.for.valid
    (fewer old new f.a.advice.pulls pulls w f.among) is inside looped h

loopless-fine : (w : CableWorld) (new : Wiring) (set : Nodes) →
    ((a b : End) → far new a ≡ Some b → far w.cabling a ≡ Some b) → HasNoLoop w set →
    NoneLooped new set
loopless-fine w new set was none part x inside looped h =
    none.empty x ((none.is_core x).1 (part, inside, (λ y hy. two-before w.cabling new part y was (looped y hy)), h))

part-fine : (w : CableWorld) (new : Wiring) (set : Nodes) (pulls : List Cable) (o : Outcome) →
    set < 2 ^ 63 → Without w.cabling new pulls → IsReported w set o →
    ((core : Nodes) → o ≡ reported.Loop core → AdviceOf w.cabling set pulls) → NoneLooped new set
part-fine w new set pulls (reported.Loop core) small out is found = advised-fine w.cabling new set pulls small out (found core refl)
part-fine w new set pulls (reported.Tree root list order) small out is found = loopless-fine w new set out.within is.is.no_loop
part-fine w new set pulls (reported.Contention a b) small out is found = loopless-fine w new set out.within is.is.no_loop

-- a component of what is left lies in a component of what was
record Around (w : CableWorld) (new : Wiring) (set : Nodes) : Type 0 where
  outer : Nodes
  within : IsWithin set outer
  fine : NoneLooped new outer

around :
    (w : CableWorld) (new : Wiring) (report : Report) (advices : List LoopAdvice) (k : ℕ) (set : Nodes) → IsCabled w → IsReport w report →
    AreAdvices w.cabling (loops_of report.parts) advices → Pulled w.cabling new (all_pulls advices) → IsComponent new k set → k < length new → Around w new set
around w new report advices k set cables is are out component there =
    let found = is.parts.whole k (omega (arith, there, out.size)) in
    let part : Part = get_or report.parts found.0 found.1 in
    let of : IsPart w part = is.parts.each found.0 found.1 found.2 in
    let at : Holds part.nodes k = subst (λ (p : Part). Holds p.nodes k) (sym found.3) found.4 in
    let whole : IsComponent w.cabling k part.nodes = shared w.cabling of.node k part.nodes cables of.component at in
    let small : part.nodes < 2 ^ 63 = small-set part.nodes 63 (λ i h. omega (arith, of.there i h, cables.few_nodes)) in
    record {
      outer = part.nodes;
      within = component.least part.nodes at (λ a b e h. whole.closed a b (out.without.within a b e) h);
      fine = part-fine w new part.nodes (all_pulls advices) part.outcome small out.without of.outcome (λ core loop.
          find-advice w.cabling part.nodes advices are.each
          (subst (In part.nodes) (sym are.are) (part-in report.parts found.0 found.1 core found.2 loop)));
    }

no-loop-part : (v : CableWorld) (part : Part) (o : Outcome) → IsReported v part.nodes o →
    NoneLooped v.cabling part.nodes → IsReportedLoop o → ⊥
no-loop-part v part (reported.Loop core) is fine loop =
    is.some (λ x h. let p = (is.is x).0 h in fine p.0 x p.1 p.2 p.3)
no-loop-part v part (reported.Tree root list order) is fine loop = loop
no-loop-part v part (reported.Contention a b) is fine loop = loop

-- a report of a world with the cables that are left
no-loop-report :
    (w v : CableWorld) (report last : Report) (advices : List LoopAdvice) → IsCabled w → IsReport w report →
    AreAdvices w.cabling (loops_of report.parts) advices → Pulled w.cabling v.cabling (all_pulls advices) → IsReport v last → ReportsNoLoop last
no-loop-report w v report last advices cables is are out then i d within loop =
    let part : Part = get_or last.parts i d in
    let of : IsPart v part = then.parts.each i d within in
    let outside = around w v.cabling report advices of.node part.nodes cables is are out of.component (of.there of.node of.component.holds) in
    no-loop-part v part part.outcome of.outcome
    (λ set x inside looped h. outside.fine set x (λ y hy. outside.within y (inside y hy)) looped h) loop

-- ---- the law

-- the second settle of an advice, whose text stands behind what was advised
settled-again :
    (out after : Bus) (before text : List ℕ) (settled : LineAnswer) → DoesSettle out settled →
    Ok (after, text) ≡ after_text before settled →
    (report : List ℕ) × DoesSettle out (Ok (after, report)) × (text ≡ before ++ report)
settled-again out after before text (Ok (bus, report)) settles e =
    let same : bus ≡ after = sym (ap (bus-in bus) e) in (
      report,
      subst (λ (u : Bus). DoesSettle out (Ok (u, report))) same settles,
      text-of bus report
          e,
    )
  where
    text-of : (b : Bus) (r : List ℕ) → ◌≡◌ {A = LineAnswer} (Ok (after, text)) (Ok (b, before ++ r)) → text ≡ before ++ r
    text-of b r f = ap text-in f
settled-again out after before text (Err kind) settles e = absurd cc

pub no-loop : NoListHasTwoTrees → ActKeepsNodes → AdvicesLeaveNoLoop
no-loop trees keeps bytes text bus after last ran a last_is =
    let first = end-of trees keeps bytes bus ran in
    let cables : IsCabled bus.world = end-cabled trees keeps bytes bus ran in
    let same : first.report ≡ a.report = same-report bus.notes.report first.report a.report first.last a.last in
    let is : IsReport bus.world a.report = subst (IsReport bus.world) same first.is in
    let out : Pulled bus.world.cabling a.pulled.world.cabling (all_pulls a.advices) =
    pulled bus a.pulled (all_pulls a.advices) cables (reported-pullable bus.world a.report a.advices cables is a.are) a.pulls in
    let again = settled-again a.pulled after (advice_text bus.notes.names a.advices) text a.settled a.settles a.answer_is in
    let s = has-settled a.pulled after again.0 again.1 in
    let cabling : after.world.cabling ≡ a.pulled.world.cabling =
    ap (λ (w : CableWorld). w.cabling) s.world ∙ turns-cabling (quiet_turns_of a.pulled.world) a.pulled.world in
    no-loop-report bus.world after.world a.report last a.advices cables is a.are
    (subst (λ (c : Wiring). Pulled bus.world.cabling c (all_pulls a.advices)) (sym cabling) out)
    (subst (IsReport after.world) (same-report after.notes.report s.report last s.last last_is) s.is)

-- the bus is of a reached world once cables are pulled
pulls-reached :
    ActKeepsNodes → (bus after : Bus) (cables : List Cable) → IsReachedBus bus → PullsLead bus cables after →
    IsReachedBus after
pulls-reached keeps bus after [] h x = subst IsReachedBus (sym x) h
pulls-reached keeps bus after (c ∷ cables) h x =
    pulls-reached keeps x.0 after cables (do-act keeps bus (Pull c.a) h tt (Ok (x.0, [])) x.1) x.2

-- the text of an advice ends with a report without a loop
pub without-loop :
    NoListHasTwoTrees → ActKeepsNodes → ListsAreReadBack → ReportedIsOutcome → OneOutcomeAtMost → (bytes text : List ℕ) → EndsWith bytes text →
    EndsWithoutLoop bytes text
without-loop trees keeps read came one bytes text e =
    let bus : Bus = e.0 in
    let after : Bus = e.1 in
    let a : Advises bus (Ok (after, text)) = e.3 in
    let before : List ℕ = advice_text bus.notes.names a.advices in
    let again = settled-again a.pulled after before text a.settled a.settles a.answer_is in
    let s : Says is-none after again.0 = settles-say a.pulled (Ok (after, again.0)) again.1 in
    let start : IsReachedBus bus = (end-of trees keeps bytes bus e.2).reached in
    let pulled : IsReachedBus a.pulled = pulls-reached keeps bus a.pulled (all_pulls a.advices) start a.pulls in
    let reached = (do-settle a.pulled pulled (Ok (after, again.0)) again.1).reached in
    record {
      bus = bus;
      ran = e.2;
      after = after;
      advises = a;
      last = s.piece;
      ends = again.2 ∙ ap (λ (l : List ℕ). before ++ l) (s.printed ∙ ap (λ (b : List ℕ). b ++ s.piece) s.alone);
      of = record {
        reached = reached;
        report = s.report;
        kept = s.kept;
        is = s.is;
        each = settled-so read came one after.world s.report reached s.is;
        told = s.told;
      };
      no_loop = no-loop trees keeps bytes text bus after s.report e.2 a s.kept;
    }

ends-so : (bytes text : List ℕ) (bus : Bus) (answer : LineAnswer) → RunsTo bytes bus →
    Advises bus answer → Ok text ≡ told_at_end bytes answer → EndsWith bytes text
ends-so bytes text bus (Ok (after, t)) ran a e =
    let same : t ≡ text = cc in
    (bus, after, ran, subst (λ (u : List ℕ). Advises bus (Ok (after, u))) same a)
ends-so bytes text bus (Err kind) ran a e = absurd cc

ends-of : (bytes text : List ℕ) → IsAdvice bytes (Ok text) → EndsWith bytes text
ends-of bytes text (inl x) = no-fault x.fault text _ x.is
ends-of bytes text (inr x) = ends-so bytes text x.bus x.answer x.ran x.advises x.is

pub all-without-loop : NoListHasTwoTrees → ActKeepsNodes → ListsAreReadBack → ReportedIsOutcome → OneOutcomeAtMost →
    AdvicesEndWithoutLoop
all-without-loop trees keeps read came one bytes text is = without-loop trees keeps read came one bytes text (ends-of bytes text is)
