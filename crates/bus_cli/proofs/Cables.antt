-- What an accepted capture says of cables, and that no capture of a cabling is refused.
use Rattle.std.proofs.Common.{◌≡◌, ◌⊎◌, inl, inr, ◌≤◌, ℕ, List, [], Option, Some, None, refl, sym, ◌∙◌, subst}
use Rattle.std.specs.Prelude.{String, IfSome}
use Rattle.std.specs.Global.{Global}
use Rattle.self_id.specs.declared.standard.Standard.TheVariants.{Ieee2000}
use Rattle.topology_stack.specs.Tree.{Tree}
use Rattle.topology_stack.specs.Text.{tree_text}
use Rattle.world_laws.specs.SlotCabling.{IsEmitted, EachBusTreeIsCabled, CabledTreesAreBusTrees}
use Rattle.world_laws.specs.TreeText.{TextsTellTrees}
use Rattle.bus_cli.specs.declared.form.Form.TheVariants.{Capture}
use Rattle.bus_cli.specs.declared.form.CaptureForm.TheVariants.{Read}
use Rattle.bus_cli.specs.Form.{Asks}
use Rattle.capture_reading.specs.Capture.{IsCaptureOf, Spells}
use Rattle.bus_cli.specs.Cabled.{TellsCabling, AnswersCabling, AreEmitted}
use Rattle.bus_cli.specs.Answer.{Answers}
use Rattle.capture_reading.specs.Answer.{AnswersRead}
use Rattle.capture_reading.specs.OneReading.{NoCaptureHasTwoTrees}
use Rattle.io_edges.specs.Streams.{IsWritten, OfTheAnswer}

-- what some cabling emits spells the tree that it shows
emitted-spells :
    CabledTreesAreBusTrees → (bytes list : List ℕ) (e : IsEmitted list) → IsCaptureOf list bytes →
    Spells Ieee2000 bytes e.tree
emitted-spells whole bytes list e captured = record {
  bus = whole e.cabling e.label e.root e.tree e.is e.labels e.seen;
  captured = subst (λ (l : List ℕ). IsCaptureOf l bytes) (sym e.emits_it) captured;
}

tells :
    EachBusTreeIsCabled → CabledTreesAreBusTrees → NoCaptureHasTwoTrees → TextsTellTrees → (bytes text : List ℕ)
    (t : Tree) → Spells Ieee2000 bytes t → text ≡ tree_text t [] → TellsCabling bytes text
tells each whole one texts bytes text t s is = record {
  tree = t;
  cabled = each t s.bus;
  captured = s.captured;
  text_is = is;
  only = λ list e captured. one Ieee2000 bytes e.tree t (emitted-spells whole bytes list e captured) s;
  told = λ other bus same. texts Ieee2000 t other s.bus bus (sym is ∙ same);
}

pub cabled :
    EachBusTreeIsCabled → CabledTreesAreBusTrees → NoCaptureHasTwoTrees → TextsTellTrees → (status : ℕ)
    (left old new : Option (List ℕ)) →
    IsWritten (AnswersRead Ieee2000) status left old new → IsWritten AnswersCabling status left old new
cabled each whole one texts status None old new h = λ which. tt
cabled each whole one texts status (Some bytes) old new h = λ which.
    let w = h which in (
      w.0,
      λ zero. elim w.1 [
        | inl v ↦ tells each whole one texts bytes w.0 v.1.0 v.1.1 v.1.2
        | inr r ↦ absurd (apart status zero r.0)
      ],
      w.2,
    )
  where
    apart : (n : ℕ) → n ≡ 0 → n ≡ 1 → ⊥
    apart n zero one = cc

pub accepted :
    CabledTreesAreBusTrees → (words : List (String Global)) → Asks words (Capture Read) → (status : ℕ) (left : Option (List ℕ)) →
    IfSome left (λ bytes. OfTheAnswer (Answers words) bytes (λ s text. (status ≡ s) ⊎ (3 ≤ status))) →
    IfSome left (λ bytes. AreEmitted bytes → (status ≡ 0) ⊎ (3 ≤ status))
accepted whole words asks status None h = tt
accepted whole words asks status (Some bytes) h = λ e.
    let s = emitted-spells whole bytes e.0 e.1 e.2 in
    h.holds 0 (tree_text e.1.tree []) (inl (Capture Read, asks, inl (refl, (e.1.tree, s, refl))))
