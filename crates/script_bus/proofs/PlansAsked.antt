-- What comes of a plan, by what was asked before.
use Rattle.std.proofs.Common.{◌≡◌, ◌==◌, ◌+◌, ◌++◌, ℕ, Bool, true, false, List, Option, Some, Err, sym, ◌∙◌, ap, subst}
use Rattle.std.specs.Prelude.{MatchBool, nat_lt}
use Rattle.root_plan.specs.declared.choice.RootPlan.{RootPlan}
use Rattle.settle.specs.Report.{quiet_turns_of}
use Rattle.script_lines.specs.declared.kind.Kind.{Kind}
use Rattle.script_told.specs.Bus.{Bus, ReportedTree, tree_with, values_at}
use Rattle.script_told.specs.Step.{LineAnswer, HasManager, AtNamedNode, AtTree, AtManager, Managed, CarriesOut, Plans, PlansAs, Settled, Within, id_of}
use Rattle.script_bus.specs.Running.{IsAsked}
use Rattle.script_bus.specs.codings.Standing.{IsPlanned, IsSent}

-- what comes of a node that asks its manager
pub asked-comes :
    (bus : Bus) (name : List ℕ) (node id manager : ℕ) → IsAsked bus name node id manager →
    (Comes : ℕ → ℕ → ℕ → LineAnswer → Type 0) (r : LineAnswer) → Comes node id manager r →
    Managed bus name Comes r
asked-comes bus name node id manager is Comes r h =
    subst (λ (o : Option ℕ). AtNamedNode o At r) (sym is.named)
    (subst (λ (o : Option ReportedTree). AtTree o (In node) r) (sym is.settled)
    (Some manager, is.managed, subst (λ (i : ℕ). Comes node i manager r) is.id_is h))
  where
    In : ℕ → ReportedTree → LineAnswer → Type 0
    In k t r = (m : Option ℕ) × HasManager t m × AtManager m (Comes k (id_of t k)) r

    At : ℕ → LineAnswer → Type 0
    At k = AtTree (tree_with k bus.notes) (In k)

-- a plan that is carried out
abbrev pub carries-out :
    (bus after : Bus) (name : List ℕ) (node : ℕ) (tree : ReportedTree) (plan : RootPlan)
    (line report text : List ℕ) →
    IsPlanned bus name tree plan line → IsSent bus node plan after report →
    text ≡ line ++ report →
    CarriesOut bus name node tree after text
carries-out bus after name node tree plan line report text p s is = record {
  shown = p.shown;
  is = p.is;
  plan = plan;
  planned = p.planned;
  expected = p.expected;
  walk = p.walk;
  sent = s.sent;
  sends = s.sends;
  report = report;
  reports = s.reports;
  text_is = is ∙ ap (λ (l : List ℕ). l ++ report) p.line_is;
}

-- the tests of a plan
module _ (bus : Bus) (name : List ℕ) (node id manager : ℕ) where
  abbrev Inner : LineAnswer → Type 0
  Inner = Settled bus node (Plans bus name node)

  abbrev Later : LineAnswer → Type 0
  Later = Within bus (quiet_turns_of bus.world) Inner

  by-manager : (b : Bool) → (values_at manager bus).bus_manager_id == id ≡ b → (r : LineAnswer) →
      MatchBool b (Later r) (r ≡ Err Kind.NotManager) → PlansAs bus name node id manager r
  by-manager b e r h = subst (λ (x : Bool). MatchBool x (Later r) (r ≡ Err Kind.NotManager)) (sym e) h

  by-turns : (b : Bool) → nat_lt 2000000 (bus.world.turns + quiet_turns_of bus.world) ≡ b →
      (r : LineAnswer) →
      MatchBool b (r ≡ Err Kind.TooManyTurns) (Inner r) → Later r
  by-turns b e r h = subst (λ (x : Bool). MatchBool x (r ≡ Err Kind.TooManyTurns) (Inner r)) (sym e) h

  pub not-manager :
      (r : LineAnswer) → (values_at manager bus).bus_manager_id == id ≡ false → r ≡ Err Kind.NotManager →
      PlansAs bus name node id manager r
  not-manager r e is = by-manager false e r is

  pub too-many-turns :
      (r : LineAnswer) → (values_at manager bus).bus_manager_id == id ≡ true →
      nat_lt 2000000 (bus.world.turns + quiet_turns_of bus.world) ≡ true → r ≡ Err Kind.TooManyTurns →
      PlansAs bus name node id manager r
  too-many-turns r e past is = by-manager true e r (by-turns true past r is)

  pub carried-out :
      (tree : ReportedTree) (r : LineAnswer) → (values_at manager bus).bus_manager_id == id ≡ true →
      nat_lt 2000000 (bus.world.turns + quiet_turns_of bus.world) ≡ false →
      tree_with node bus.notes ≡ Some tree → Plans bus name node tree r →
      PlansAs bus name node id manager r
  carried-out tree r e within settled h = by-manager true e r (by-turns false within r
      (subst (λ (o : Option ReportedTree). AtTree o (Plans bus name node) r) (sym settled) h))
