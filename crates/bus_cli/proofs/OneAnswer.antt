-- All words and bytes have one answer.
use Rattle.std.proofs.Common.{subst, sym, Option, Some, Result, Ok, Err, ◌⊎◌, inl, inr, ◌≡◌, ℕ, ◌≤◌, List, [], refl, ap, ◌∙◌}
use Rattle.std.specs.Prelude.{String, All, ◌<◌, codes}
use Rattle.std.specs.Global.{Global}
use Rattle.self_id.specs.declared.standard.Standard.{Standard}
use Rattle.self_id.specs.declared.standard.Standard.TheVariants.{Ieee1995, Ieee2000}
use Rattle.topology_stack.specs.Tree.{Tree}
use Rattle.topology_stack.specs.Text.{tree_text}
use Rattle.config_rom.specs.declared.fault.RomFault.{RomFault}
use Rattle.config_rom.specs.Rom.{Parts}
use Rattle.config_rom.specs.Fault.{rom_fault}
use Rattle.config_rom.specs.Line.{rom_line}
use Rattle.config_rom.specs.Block.{BlocksRefused}
use Rattle.config_rom.specs.OneReading.{EachInputIsARomOrRefused, NoInputIsTwoRoms, NoRomIsRefused, EachRomHasGoodBlocksOrAFault, NoGoodBlocksAreRefused, NoBlocksHaveTwoFaults, NoRomHasTwoTexts}
use Rattle.config_rom.specs.SomeText.{RomsHaveTexts}
use Rattle.script_lines.specs.declared.kind.ScriptFault.{ScriptFault}
use Rattle.script_text.specs.Maps.{IsMapsText}
use Rattle.script_text.specs.SomeMaps.{MapsHaveTexts}
use Rattle.script_text.proofs.Lemmas.{same_maps}
use Rattle.script_text.specs.Summary.{summary}
use Rattle.script_made.specs.Made.{made_script}
use Rattle.script_made.specs.MadeValid.{MadeScriptsRunThrough}
use Rattle.script_told.specs.Bus.{Bus}
use Rattle.script_told.specs.Script.{ScriptResult}
use Rattle.script_told.specs.Run.{printed, unless_stopped, IsResult}
use Rattle.script_told.specs.OneTold.{ScriptsTellOneThing}
use Rattle.script_told.proofs.Lemmas.{not-both, same-end, same-fault}
use Rattle.script_bus.specs.SomeRun.{HasRun, EachScriptHasARun}
use Rattle.script_advice.specs.Advice.{IsAdvice, EndsWithoutLoop}
use Rattle.script_advice.specs.OneAdvice.{ScriptsHaveOneAdvice, AdvicesEndWithoutLoop}
use Rattle.script_bus.specs.SomeAdvice.{HasSomeAdvice, EachScriptHasAnAdvice}
use Rattle.about.specs.Told.{about_text}
use Rattle.bus_cli.specs.declared.help.TheConstants.{HELP}
use Rattle.bus_cli.specs.declared.form.Form.{Form}
use Rattle.bus_cli.specs.declared.form.Form.TheVariants.{Capture, Rom, Run, Advice, Make, OfItself}
use Rattle.bus_cli.specs.declared.form.CaptureForm.TheVariants.{Read, Read95, Maps}
use Rattle.capture_reading.specs.declared.fault.CaptureFault.{CaptureFault}
use Rattle.bus_cli.specs.Form.{Asks}
use Rattle.capture_reading.specs.Line.{fault_line}
use Rattle.script_run.specs.Line.{script_line}
use Rattle.capture_reading.specs.OneReading.{EachCaptureHasATreeOrAFault, NoCaptureHasTwoTrees, NoCaptureHasATreeAndAFault, NoCaptureHasTwoFaults}
use Rattle.bus_cli.specs.Answer.{AnswersMaps, TellsRom, HasRomFault, TextOfRom, AnswersRom, AnswersForm}
use Rattle.capture_reading.specs.Answer.{ValidOrRefused, IsCaptureLine, AnswersRead}
use Rattle.script_run.specs.Answer.{PrintsRun, AnswersRun, AnswersAdvice, AnswersMake, ToldTextsArePrinted}
use Rattle.bus_cli.specs.OneAnswer.{EachInputHasAnAnswer, NoInputHasTwoAnswers}
use Rattle.top_call.proofs.Lemmas.{each_answered, none_twice}
use Rattle.bus_cli.proofs.Forms.{one_form, form_or_none}

-- a capture has one reading, and so has a ROM, and no script tells two things
pub record HasOneReading : Type 0 where
  pub tree : NoCaptureHasTwoTrees
  pub apart : NoCaptureHasATreeAndAFault
  pub fault : NoCaptureHasTwoFaults
  pub one_rom : NoInputIsTwoRoms
  pub rom_apart : NoRomIsRefused
  pub blocks_apart : NoGoodBlocksAreRefused
  pub block_fault : NoBlocksHaveTwoFaults
  pub text : NoRomHasTwoTexts
  pub script : ScriptsTellOneThing
  pub advice : ScriptsHaveOneAdvice

-- ---- one status and one text

-- the status and the text are those of another answer
abbrev AreOne : (ℕ → List ℕ → Type 0) → Type 0
AreOne Is = (s r : ℕ) (a b : List ℕ) → Is s a → Is r b → (s ≡ r) × (a ≡ b)

one_of_two :
    (valid refused : List ℕ → Type 0) → ((a b : List ℕ) → valid a → valid b → a ≡ b) →
    ((a b : List ℕ) → valid a → refused b → ⊥) → ((a b : List ℕ) → refused a → refused b → a ≡ b) →
    AreOne (ValidOrRefused valid refused)
one_of_two valid refused same apart line s r a b (inl x) (inl y) = (x.0 ∙ sym y.0, same a b x.1 y.1)
one_of_two valid refused same apart line s r a b (inl x) (inr y) = absurd (apart a b x.1 y.1)
one_of_two valid refused same apart line s r a b (inr x) (inl y) = absurd (apart b a y.1 x.1)
one_of_two valid refused same apart line s r a b (inr x) (inr y) = (x.0 ∙ sym y.0, line a b x.1 y.1)

module _ (one : HasOneReading) where
  one_line : (standard : Standard) (bytes a b : List ℕ) → IsCaptureLine standard bytes a →
      IsCaptureLine standard bytes b → a ≡ b
  one_line standard bytes a b (f, x, e) (g, y, h) =
      e ∙ ap (λ (z : CaptureFault). fault_line z) (one.fault standard bytes f g x y) ∙ sym h

  one_read : (standard : Standard) (bytes : List ℕ) → AreOne (AnswersRead standard bytes)
  one_read standard bytes = one_of_two _ _
      (λ a b x y. x.2 ∙ ap (λ (t : Tree). tree_text t []) (one.tree standard bytes x.0 y.0 x.1 y.1) ∙ sym y.2)
      (λ a b x y. one.apart standard bytes x.0 y.0 x.1 y.1)
      (one_line standard bytes)

  one_maps : (bytes : List ℕ) → AreOne (AnswersMaps bytes)
  one_maps bytes = one_of_two _ _
      (λ a b x y.
      let same : y.0 ≡ x.0 = one.tree Ieee2000 bytes y.0 x.0 y.1 x.1 in
      same_maps 1 x.0 a b x.1.bus.bus x.2 (subst (λ (t : Tree). IsMapsText 1 t b) same y.2))
      (λ a b x y. one.apart Ieee2000 bytes x.0 y.0 x.1 y.1)
      (one_line Ieee2000 bytes)

  rom_apart : (bytes : List ℕ) (v : Parts) (f : RomFault) → TellsRom bytes v → HasRomFault bytes f →
      ⊥
  rom_apart bytes v f a (inl e) = one.rom_apart bytes v f a.rom e
  rom_apart bytes v f a (inr (w, (of, first))) =
      one.blocks_apart v f a.blocks (subst (λ (x : Parts). BlocksRefused x f) (one.one_rom bytes w v of a.rom) first)

  rom_fault_is : (bytes : List ℕ) (f g : RomFault) → HasRomFault bytes f → HasRomFault bytes g →
      f ≡ g
  rom_fault_is bytes f g (inl a) (inl b) = same_fault (rom_fault bytes) a b
    where
      same_fault : (o : Option RomFault) → o ≡ Some f → o ≡ Some g → f ≡ g
      same_fault o x y = cc
  rom_fault_is bytes f g (inl a) (inr (w, (of, first))) = absurd (one.rom_apart bytes w f of a)
  rom_fault_is bytes f g (inr (v, (of, first))) (inl b) = absurd (one.rom_apart bytes v g of b)
  rom_fault_is bytes f g (inr (v, (of, first))) (inr (w, (again, also))) =
      one.block_fault w f g (subst (λ (x : Parts). BlocksRefused x f) (one.one_rom bytes v w of again) first) also

  one_rom_text : (bytes : List ℕ) → AreOne (AnswersRom bytes)
  one_rom_text bytes = one_of_two _ _
      (λ a b x y.
      let same : y.0 ≡ x.0 = one.one_rom bytes y.0 x.0 y.1.rom x.1.rom in
      let other : TextOfRom x.0 b = subst (λ (v : Parts). TextOfRom v b) same y.2 in
      one.text x.0 x.2.list other.list a b x.2.are_blocks other.are_blocks x.2.is_text other.is_text)
      (λ a b x y. rom_apart bytes x.0 y.0 x.1 y.1)
      (λ a b x y. x.2 ∙ ap (λ (f : RomFault). rom_line f) (rom_fault_is bytes x.0 y.0 x.1 y.1) ∙ sym y.2)

  -- one telling at most is one text or one fault
  one_told : (Tells : ScriptResult → Type 0) → ((x y : ScriptResult) → Tells x → Tells y → x ≡ y) →
      (valid : List ℕ → Type 0) →
      ((a : List ℕ) → valid a → Tells (Ok a)) →
      AreOne (ValidOrRefused valid (λ text. (f : ScriptFault) × Tells (Err f) × (text ≡ script_line f)))
  one_told Tells same valid tells = one_of_two _ _
      (λ a b x y. same-end a b (same (Ok a) (Ok b) (tells a x) (tells b y)))
      (λ a b x y. not-both a y.0 (same (Ok a) (Err y.0) (tells a x) y.1))
      (λ a b x y.
      x.2 ∙ ap (λ (f : ScriptFault). script_line f)
      (same-fault x.0 y.0 (same (Err x.0) (Err y.0) x.1 y.1)) ∙ sym y.2)

  pub prints_told : (bytes text : List ℕ) → PrintsRun bytes text → IsResult bytes (Ok text)
  prints_told bytes text x =
      (x.run, x.is, ap Ok x.text_is ∙ sym (ap (unless_stopped (printed x.run.entries)) x.ends))

  one_run : (bytes : List ℕ) → AreOne (AnswersRun bytes)
  one_run bytes = one_told (IsResult bytes) (one.script bytes) (PrintsRun bytes) (prints_told bytes)

  ends_advice : (bytes text : List ℕ) → EndsWithoutLoop bytes text → IsAdvice bytes (Ok text)
  ends_advice bytes text x =
      inr (record { bus = x.bus; ran = x.ran; answer = Ok (x.after, text); advises = x.advises; is = refl })

  one_advice : (bytes : List ℕ) → AreOne (AnswersAdvice bytes)
  one_advice bytes = one_told (IsAdvice bytes) (one.advice bytes) (EndsWithoutLoop bytes) (ends_advice bytes)

  one_made : (nodes seed : ℕ) → AreOne (AnswersMake nodes seed)
  one_made nodes seed s r a b x y =
      let script : List ℕ = made_script nodes seed in
      let whole : x.1.0 ≡ y.1.0 =
      same-end x.1.0 y.1.0 (one.script script (Ok x.1.0) (Ok y.1.0)
      (prints_told script x.1.0 x.1.1) (prints_told script y.1.0 y.1.1)) in
      (x.0 ∙ sym y.0, x.1.2 ∙ ap (λ (t : List ℕ). summary t) whole ∙ sym y.1.2)

  one_form_answer : (form : Form) (bytes : List ℕ) → AreOne (AnswersForm form bytes)
  one_form_answer (Capture Read) bytes = one_read Ieee2000 bytes
  one_form_answer (Capture Read95) bytes = one_read Ieee1995 bytes
  one_form_answer (Capture Maps) bytes = one_maps bytes
  one_form_answer Rom bytes = one_rom_text bytes
  one_form_answer Run bytes = one_run bytes
  one_form_answer Advice bytes = one_advice bytes
  one_form_answer (Make nodes seed) bytes = one_made nodes seed
  one_form_answer (OfItself about) bytes = λ s r a b x y. (x.0 ∙ sym y.0, x.1 ∙ sym y.1)

  pub one_answer : NoInputHasTwoAnswers
  one_answer words = none_twice (Asks words) AnswersForm (one_form words) one_form_answer

-- ---- some status and some text

-- a capture has a reading, and so has a ROM, and each script has a run and an advice
pub record HasSomeReading : Type 0 where
  pub some : EachCaptureHasATreeOrAFault
  pub maps : MapsHaveTexts
  pub some_rom : EachInputIsARomOrRefused
  pub some_blocks : EachRomHasGoodBlocksOrAFault
  pub rom_text : RomsHaveTexts
  pub run : EachScriptHasARun
  pub printed_so : ToldTextsArePrinted
  pub made : MadeScriptsRunThrough
  pub advice : EachScriptHasAnAdvice
  pub no_loop : AdvicesEndWithoutLoop

abbrev HasSome : (ℕ → List ℕ → Type 0) → Type 0
HasSome Is = (s : ℕ) × (text : List ℕ) × Is s text

module _ (have : HasSomeReading) where
  some_read : (standard : Standard) (bytes : List ℕ) → All (λ b. b < 256) bytes →
      HasSome (AnswersRead standard bytes)
  some_read standard bytes fit = elim (have.some standard bytes fit) [
    | inl t ↦ (0, tree_text t.0 [], inl (refl, (t.0, t.1, refl)))
    | inr f ↦ (1, fault_line f.0, inr (refl, (f.0, f.1, refl)))
  ]

  some_maps : (bytes : List ℕ) → All (λ b. b < 256) bytes → HasSome (AnswersMaps bytes)
  some_maps bytes fit = elim (have.some Ieee2000 bytes fit) [
    | inl t ↦ let m = have.maps 1 t.0 t.1.bus.bus in (0, m.text, inl (refl, (t.0, t.1, m.is)))
    | inr f ↦ (1, fault_line f.0, inr (refl, (f.0, f.1, refl)))
  ]

  some_rom_answer : (bytes : List ℕ) → All (λ b. b < 256) bytes → HasSome (AnswersRom bytes)
  some_rom_answer bytes fit = elim (have.some_rom bytes fit) [
    | inl v ↦ elim (have.some_blocks v.0) [
      | inl good ↦
          let t = have.rom_text v.0 good in
          (0, t.text, inl (refl, (v.0, record { rom = v.1; blocks = good }, record { list = t.list; are_blocks = t.are; is_text = t.is_text })))
      | inr f ↦ (1, rom_line f.0, inr (refl, (f.0, inr (v.0, (v.1, f.1)), refl)))
    ]
    | inr f ↦ (1, rom_line f.0, inr (refl, (f.0, inl f.1, refl)))
  ]

  some_run : (bytes : List ℕ) → HasSome (AnswersRun bytes)
  some_run bytes = go r.run.end refl
    where
      r : HasRun bytes
      r = have.run bytes

      go : (end : Result Bus ScriptFault) → r.run.end ≡ end → HasSome (AnswersRun bytes)
      go (Ok bus) e = (
        0,
        printed r.run.entries,
        inl (refl, have.printed_so bytes (printed r.run.entries) (r.run, r.is, sym (ap (unless_stopped (printed r.run.entries)) e))),
      )
      go (Err f) e = (1, script_line f, inr (refl, (f, (r.run, r.is, sym (ap (unless_stopped (printed r.run.entries)) e)), refl)))

  some_advice : (bytes : List ℕ) → HasSome (AnswersAdvice bytes)
  some_advice bytes = go a.told a.is
    where
      a : HasSomeAdvice bytes
      a = have.advice bytes

      go : (told : ScriptResult) → IsAdvice bytes told → HasSome (AnswersAdvice bytes)
      go (Ok text) is = (0, text, inl (refl, have.no_loop bytes text is))
      go (Err f) is = (1, script_line f, inr (refl, (f, is, refl)))

  some_made : (nodes seed : ℕ) → nodes ≤ 63 → HasSome (AnswersMake nodes seed)
  some_made nodes seed few =
      let script : List ℕ = made_script nodes seed in
      let r : HasRun script = have.run script in
      let end = have.made nodes seed r.run few r.is in
      let whole : List ℕ = printed r.run.entries in (
        0,
        summary whole,
        (
          refl,
          (
            whole,
            have.printed_so script whole (r.run, r.is, sym (ap (unless_stopped whole) end.1)),
            refl,
          ),
        ),
      )

  some_form : (words : List (String Global)) (form : Form) → Asks words form → (bytes : List ℕ) →
      All (λ b. b < 256) bytes → HasSome (AnswersForm form bytes)
  some_form words (Capture Read) asks bytes fit = some_read Ieee2000 bytes fit
  some_form words (Capture Read95) asks bytes fit = some_read Ieee1995 bytes fit
  some_form words (Capture Maps) asks bytes fit = some_maps bytes fit
  some_form words Rom asks bytes fit = some_rom_answer bytes fit
  some_form words Run asks bytes fit = some_run bytes
  some_form words Advice asks bytes fit = some_advice bytes
  some_form words (Make nodes seed) asks bytes fit = some_made nodes seed asks.few_nodes
  some_form words (OfItself about) asks bytes fit = (0, about_text about (codes "busconf") HELP.now, (refl, refl))

  pub some_answer : EachInputHasAnAnswer
  some_answer words = each_answered (Asks words) AnswersForm (form_or_none words) (some_form words)
