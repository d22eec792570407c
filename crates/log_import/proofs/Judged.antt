-- What is told of a reset that isn't passed over.
use Rattle.std.proofs.Common.{◌≡◌, inl, inr, ℕ, Bool, true, false, is_some, Option, Some, None, List, [], refl}
use Rattle.bus_json.specs.Bus.{tree_members}
use Rattle.bus_json.specs.Text.{json_line}
use Rattle.topology_stack.specs.Tree.{Tree}
use Rattle.reset_list.specs.Json.{list_fault}
use Rattle.reset_log.specs.declared.cards.Known.{Known}
use Rattle.reset_log.specs.declared.notes.Pending.{Pending}
use Rattle.reset_log.specs.Json.{reset_value}
use Rattle.reset_log.specs.Noted.{is_second, is_repeated}
use Rattle.reset_log.specs.Shown.{unjudged_text, lacking_text}
use Rattle.reset_log.specs.Told.{Verdict, failed, lacking, spelt, refused, Telling, IsResetTelling, is_shown, cards_by, cards_with}
use Rattle.log_import.specs.Reset.{form}
use Rattle.log_import.specs.codings.Verdicts.{IsJudged}

pub record IsTold (p : Pending) (before : Option Known) (is_heard : Bool) : Type 0 where
  pub telling : Telling
  pub heard : Option Tree
  pub tells : IsResetTelling form p.number p.left before p.reset telling
  pub shown : is_shown telling.verdict ≡ true
  pub cards_are : (cards : List Known) → cards_by p.reset telling.verdict cards ≡ cards_with p.reset heard cards
  pub heard_is : is_some heard ≡ is_heard

abbrev of : Pending → Option Known → Verdict → List ℕ → Telling
of p before verdict text = record { verdict = verdict; second = is_second before p.reset; text = text }

pub told : (p : Pending) (before : Option Known) (is_heard : Bool) → is_repeated before p.reset ≡ false →
    IsJudged p is_heard → IsTold p before is_heard
told p before true fresh (t, is) = record {
  telling = of p before (spelt t) (json_line (reset_value p.number before p.reset (tree_members [] t)));
  heard = Some t;
  tells = record {
    verdict = (record { fresh = fresh; fine = is.0; all = is.1 }, is.2);
    second = refl;
    shown = refl;
  };
  shown = refl;
  cards_are = λ cards. refl;
  heard_is = refl;
}
told p before false fresh (inl error) = record {
  telling = of p before failed (unjudged_text form p.number before p.reset);
  heard = None;
  tells = record { verdict = (fresh, error); second = refl; shown = refl };
  shown = refl;
  cards_are = λ cards. refl;
  heard_is = refl;
}
told p before false fresh (inr (inl lacks)) = record {
  telling = of p before lacking (lacking_text form p.number before p.reset p.left);
  heard = None;
  tells = record { verdict = (fresh, lacks.0, lacks.1); second = refl; shown = refl };
  shown = refl;
  cards_are = λ cards. refl;
  heard_is = refl;
}
told p before false fresh (inr (inr (f, is))) = record {
  telling = of p before (refused f) (json_line (reset_value p.number before p.reset (list_fault f)));
  heard = None;
  tells = record {
    verdict = (record { fresh = fresh; fine = is.0; all = is.1 }, is.2);
    second = refl;
    shown = refl;
  };
  shown = refl;
  cards_are = λ cards. refl;
  heard_is = refl;
}
