-- A part of a report is told by a piece of its text.
use Rattle.std.proofs.Common.{◌≡◌, inl, inr, ℕ, List, [], ◌∷◌, ◌++◌, Option, Some, length, refl, sym, subst, ◌∙◌, ap, arith, append-nil, append_assoc}
use Rattle.std.specs.Prelude.{All, Any}
use Rattle.std.proofs.lemmas.Bool.{cases_lt}
use Rattle.std.proofs.lemmas.List.{length-append, get_or_append_left, get_or_push}
use Rattle.std.proofs.lemmas.List.Quantifiers.{Any-push}
use Rattle.topology_stack.specs.OneAnswer.{NoListHasTwoTrees}
use Rattle.cabling.specs.Wiring.{Wiring}
use Rattle.cable_world.proofs.Lemmas.{reached-lawful}
use Rattle.settle.specs.declared.report.Part.{Part}
use Rattle.settle.specs.declared.report.Report.{Report}
use Rattle.settle.specs.Planned.{HaveGap}
use Rattle.settle.specs.Report.{AreParts, IsPart, IsTreeFrom}
use Rattle.settle.proofs.Lemmas.{part-reads}
use Rattle.script_text.specs.ReportText.{Names, report_line, IsPartText, ArePartTexts, none, more, IsReportText}
use Rattle.script_told.specs.Bus.{Bus}
use Rattle.script_told.specs.PrintedTree.{IsPieceOf, PrintsGap, PrintsTree}
use Rattle.script_told.specs.SomeAnswer.{IsReachedBus}

-- the part that passes, and its text in that of all
record Found (names : Names) (P : Part → Type 0) (parts : List Part) (text : List ℕ) : Type 0 where
  part : Part
  among : Any (λ p. p ≡ part) parts
  passes : P part
  part_text : List ℕ
  is_text : IsPartText names part part_text
  stands : IsPieceOf part_text text

-- what was found among fewer parts is among one part more
one-more :
    (names : Names) (P : Part → Type 0) (parts : List Part) (part : Part) (text its : List ℕ) →
    Found names P parts text → Found names P (parts ++ part ∷ []) (text ++ its)
one-more names P parts part text its f = record {
  part = f.part;
  among = (
    f.among.0,
    f.among.1,
    omega (arith, f.among.2, length-append parts (part ∷ [])),
    get_or_append_left parts (part ∷ []) f.among.1 f.among.0 f.among.2 ∙ f.among.3,
    f.among.4,
  );
  passes = f.passes;
  part_text = f.part_text;
  is_text = f.is_text;
  stands = (
    f.stands.0,
    f.stands.1 ++ its,
    ap (λ t. t ++ its) f.stands.2
        ∙ append_assoc f.stands.0 (f.part_text ++ f.stands.1) its
        ∙ ap (λ t. f.stands.0 ++ t) (append_assoc f.part_text f.stands.1 its),
  );
}

found-in :
    (names : Names) (P : Part → Type 0) (parts : List Part) (text : List ℕ) →
    ArePartTexts names parts text → Any P parts → Found names P parts text
found-in names P parts text none h = absurd (omega (arith, h.2))
found-in names P parts text (more before so-far part its told is) h = elim (cases_lt h.0 (length before)) [
  | inl less ↦
      let at = sym (get_or_append_left before (part ∷ []) h.1 h.0 less) ∙ h.3 in
      one-more names P before part so-far its (found-in names P before so-far told (h.0, h.1, less, at, h.4))
  | inr last ↦
      let place : length before ≡ h.0 = omega (arith, last, h.2, length-append before (part ∷ [])) in
      let same : h.1 ≡ part = sym h.3 ∙ get_or_push before part h.1 h.0 place in
      record {
        part = part;
        among = Any-push (λ p. p ≡ part) before part refl;
        passes = subst P same h.4;
        part_text = its;
        is_text = is;
        stands = (so-far, [], ap (λ t. so-far ++ t) (sym (append-nil its)));
      }
]

-- a tree of a report that is printed is printed
pub prints-tree :
    (c : Wiring) (from root : ℕ) (after : Bus) (report : Report) (text front : List ℕ) (number : ℕ) →
    after.notes.report ≡ Some report → Any (IsTreeFrom c from root) report.parts →
    IsReportText after.notes.names number report text → PrintsTree c from root after (front ++ text)
prints-tree c from root after report text front number kept has told =
    let f = found-in after.notes.names (IsTreeFrom c from root) report.parts told.parts told.told has in
    let line = report_line number report.turn in
    record {
      report = report;
      kept = kept;
      part = f.part;
      among = f.among;
      tree = f.passes;
      part_text = f.part_text;
      is_text = f.is_text;
      stands = (
        front ++ (line ++ f.stands.0),
        f.stands.1,
        ap (λ t. front ++ t) (told.is ∙ ap (λ t. line ++ t) f.stands.2 ∙ sym (append_assoc line f.stands.0 (f.part_text ++ f.stands.1)))
            ∙ sym (append_assoc front (line ++ f.stands.0) (f.part_text ++ f.stands.1)),
      );
    }

-- ---- gap counts

-- what holds of each part holds of one among them
among-all : (P : Part → Type 0) (parts : List Part) (part : Part) → All P parts →
    Any (λ p. p ≡ part) parts → P part
among-all P parts part all any = subst P any.4 (subst P any.3 (all any.0 any.1 any.2))

-- a report that is kept is one
pub same-report : (o : Option Report) (a b : Report) → o ≡ Some a → o ≡ Some b → a ≡ b
same-report o a b x y = cc

-- the lines of a tree that is printed say the gap count that its nodes have
pub prints-gap :
    NoListHasTwoTrees → (after : Bus) → IsReachedBus after → (said : Report) →
    after.notes.report ≡ Some said → AreParts after.world said.parts → (from gap : ℕ) →
    HaveGap after.world from gap → PrintsGap after from gap
prints-gap trees after h said kept parts from gap have report part root list order is among inside outcome =
    let same : said ≡ report = same-report after.notes.report said report kept is in
    part-reads trees after.world (reached-lawful after.world h.reached).well_formed from gap have part
    (among-all (IsPart after.world) report.parts part
    (subst (λ (r : Report). All (IsPart after.world) r.parts) same parts.each) among)
    inside root list order outcome
