-- What an accepted capture says of cables by a standard, and that no capture of a cabling is refused by it.
use Rattle.std.proofs.Common.{◌≡◌, ◌⊎◌, inl, inr, ◌≤◌, ℕ, List, [], Option, Some, None, refl, sym, ◌∙◌}
use Rattle.std.specs.Prelude.{String, IfSome}
use Rattle.std.specs.Global.{Global}
use Rattle.self_id.specs.declared.standard.Standard.{Standard}
use Rattle.self_id.specs.declared.standard.Standard.TheVariants.{Ieee1995}
use Rattle.topology_stack.specs.Tree.{Tree, emits}
use Rattle.topology_stack.specs.Text.{tree_text}
use Rattle.slot_cabling.specs.SlotCabling.{CablesTree, CablingsShowTheBusTrees}
use Rattle.world_laws.specs.TreeText.{TextsTellTrees}
use Rattle.bus_cli.specs.declared.form.Form.TheVariants.{Capture}
use Rattle.bus_cli.specs.declared.form.CaptureForm.TheVariants.{Read95}
use Rattle.bus_cli.specs.Form.{Asks}
use Rattle.capture_reading.specs.Capture.{IsCaptureOf, Spells}
use Rattle.bus_cli.specs.CabledBy.{TellsCablingBy, AnswersCablingBy, AreEmittedBy}
use Rattle.bus_cli.specs.Answer.{Answers}
use Rattle.capture_reading.specs.Answer.{AnswersRead}
use Rattle.capture_reading.specs.OneReading.{NoCaptureHasTwoTrees}
use Rattle.io_edges.specs.Streams.{IsWritten, OfTheAnswer}

-- what a cabling emits spells the tree that it shows
emitted-spells :
    CablingsShowTheBusTrees → (standard : Standard) (bytes : List ℕ) (t : Tree) → CablesTree standard t → IsCaptureOf (emits t) bytes →
    Spells standard bytes t
emitted-spells shown standard bytes t cabled captured =
    record { bus = (shown standard t).1 cabled; captured = captured }

tells :
    CablingsShowTheBusTrees → NoCaptureHasTwoTrees → TextsTellTrees → (standard : Standard) (bytes text : List ℕ)
    (t : Tree) → Spells standard bytes t → text ≡ tree_text t [] → TellsCablingBy standard bytes text
tells shown one texts standard bytes text t s is = record {
  tree = t;
  cabled = (shown standard t).0 s.bus;
  captured = s.captured;
  text_is = is;
  only = λ other cabled captured. one standard bytes other t (emitted-spells shown standard bytes other cabled captured) s;
  told = λ other bus same. texts standard t other s.bus bus (sym is ∙ same);
}

pub cabled_by :
    CablingsShowTheBusTrees → NoCaptureHasTwoTrees → TextsTellTrees → (standard : Standard) (status : ℕ)
    (left old new : Option (List ℕ)) →
    IsWritten (AnswersRead standard) status left old new → IsWritten (AnswersCablingBy standard) status left old new
cabled_by shown one texts standard status None old new h = λ which. tt
cabled_by shown one texts standard status (Some bytes) old new h = λ which.
    let w = h which in (
      w.0,
      λ zero. elim w.1 [
        | inl v ↦ tells shown one texts standard bytes w.0 v.1.0 v.1.1 v.1.2
        | inr r ↦ absurd (apart status zero r.0)
      ],
      w.2,
    )
  where
    apart : (n : ℕ) → n ≡ 0 → n ≡ 1 → ⊥
    apart n zero one = cc

pub accepted_by :
    CablingsShowTheBusTrees → (words : List (String Global)) → Asks words (Capture Read95) → (status : ℕ) (left : Option (List ℕ)) →
    IfSome left (λ bytes. OfTheAnswer (Answers words) bytes (λ s text. (status ≡ s) ⊎ (3 ≤ status))) →
    IfSome left (λ bytes. AreEmittedBy Ieee1995 bytes → (status ≡ 0) ⊎ (3 ≤ status))
accepted_by shown words asks status None h = tt
accepted_by shown words asks status (Some bytes) h = λ e.
    let s = emitted-spells shown Ieee1995 bytes e.0 e.1 e.2 in
    h.holds 0 (tree_text e.0 []) (inl (Capture Read95, asks, inl (refl, (e.0, s, refl))))
