-- What a line is: what its reader says, and nothing else.
use Rattle.std.proofs.Common.{◌≡◌, ◌∙◌, ◌⊎◌, inl, inr, ℕ, List, [], ◌∷◌, Option, Some, None, Bool, true, false, refl, sym, ap, subst}
use Rattle.std.specs.Prelude.{cond, not, IsTrue, Result, Ok, Err, IfOk, IfErr}
use Rattle.std.specs.Str.Lines.{strip_carriage_return}
use Rattle.port_state.specs.declared.ranges.TimeRanges.{TimeRanges}
use Rattle.script_lines.specs.declared.command.Command.{Command}
use Rattle.script_lines.specs.declared.kind.Kind.{Kind}
use Rattle.script_lines.specs.declared.kind.Kind.TheVariants.{Word}
use Rattle.script_lines.specs.Words.{words_of}
use Rattle.script_lines.specs.Shape.{fit}
use Rattle.script_lines.specs.Form.{Form, plug, pull, reset, turn, hold, settle, config_root, config_gap, config_both, csr_read, csr_write, csr_lock, look, allocate, release, manager, plan, maps, delay, times_2000, times_1995, clock_paced, clock_first, forms, shapes}
use Rattle.script_lines.specs.Node.{has_node_form}
use Rattle.script_lines.specs.Line.{LineForm, node, other, has_form, wrong_word, meaning, IsWrong, HasNoForm, is_skipped, is_permitted_line, IsNoLine, ReadsStripped, ReadsLine}
use Rattle.script_lines.specs.codings.Reading.{unless, read_words, in_line, read_line}
use Rattle.script_lines.specs.declared.kind.LineStop.{LineStop}
use Rattle.script_lines.specs.declared.kind.LineStop.TheVariants.{Fault, Memory}
use Rattle.script_lines.specs.Answer.{AnswersReading, Refuses}
use Rattle.script_lines.proofs.Uniform.{read_form, read_none}

-- none of these forms fits the words
abbrev NoneOf : List Form → List (List ℕ) → Type 0
NoneOf [] words = Unit {0}
NoneOf (form ∷ forms) words = (fit (shapes form) words ≡ false) × NoneOf forms words

none_at : (words : List (List ℕ)) → NoneOf forms words → (form : Form) →
    fit (shapes form) words ≡ false
none_at words h plug = h.0
none_at words h pull = h.1.0
none_at words h reset = h.1.1.0
none_at words h turn = h.1.1.1.0
none_at words h hold = h.1.1.1.1.0
none_at words h settle = h.1.1.1.1.1.0
none_at words h config_root = h.1.1.1.1.1.1.0
none_at words h config_gap = h.1.1.1.1.1.1.1.0
none_at words h config_both = h.1.1.1.1.1.1.1.1.0
none_at words h csr_read = h.1.1.1.1.1.1.1.1.1.0
none_at words h csr_write = h.1.1.1.1.1.1.1.1.1.1.0
none_at words h csr_lock = h.1.1.1.1.1.1.1.1.1.1.1.0
none_at words h look = h.1.1.1.1.1.1.1.1.1.1.1.1.0
none_at words h allocate = h.1.1.1.1.1.1.1.1.1.1.1.1.1.0
none_at words h release = h.1.1.1.1.1.1.1.1.1.1.1.1.1.1.0
none_at words h manager = h.1.1.1.1.1.1.1.1.1.1.1.1.1.1.1.0
none_at words h plan = h.1.1.1.1.1.1.1.1.1.1.1.1.1.1.1.1.0
none_at words h maps = h.1.1.1.1.1.1.1.1.1.1.1.1.1.1.1.1.1.0
none_at words h delay = h.1.1.1.1.1.1.1.1.1.1.1.1.1.1.1.1.1.1.0
none_at words h times_2000 = h.1.1.1.1.1.1.1.1.1.1.1.1.1.1.1.1.1.1.1.0
none_at words h times_1995 = h.1.1.1.1.1.1.1.1.1.1.1.1.1.1.1.1.1.1.1.1.0
none_at words h clock_paced = h.1.1.1.1.1.1.1.1.1.1.1.1.1.1.1.1.1.1.1.1.1.0
none_at words h clock_first = h.1.1.1.1.1.1.1.1.1.1.1.1.1.1.1.1.1.1.1.1.1.1.0

some_of : (forms : List Form) (words : List (List ℕ))
    → ((form : Form) × (fit (shapes form) words ≡ true)) ⊎ NoneOf forms words
some_of [] words = inr tt
some_of (form ∷ forms) words = go (fit (shapes form) words) refl (some_of forms words)
  where
    go : (b : Bool) → fit (shapes form) words ≡ b
        → (((form : Form) × (fit (shapes form) words ≡ true)) ⊎ NoneOf forms words)
        → ((form : Form) × (fit (shapes form) words ≡ true)) ⊎ NoneOf (form ∷ forms) words
    go true e rest = inl (form, e)
    go false e (inl found) = inl found
    go false e (inr none) = inr (e, none)

-- words have a form or none
some_form : (words : List (List ℕ))
    → ((form : LineForm) × (has_form form words ≡ true)) ⊎ HasNoForm words
some_form words = go (has_node_form words) refl (some_of forms words)
  where
    no_form : has_node_form words ≡ false → NoneOf forms words → HasNoForm words
    no_form e none node h = absurd (cc)
    no_form e none (other form) h =
        let unfit : fit (shapes form) words ≡ false = none_at words none form in absurd (cc)

    go : (b : Bool) → has_node_form words ≡ b
        → (((form : Form) × (fit (shapes form) words ≡ true)) ⊎ NoneOf forms words)
        → ((form : LineForm) × (has_form form words ≡ true)) ⊎ HasNoForm words
    go true e rest = inl (node, e)
    go false e (inl found) = inl (other found.0, found.1)
    go false e (inr none) = inr (no_form e none)

pub not_false : (b : Bool) → b ≡ false → IsTrue (not b)
not_false true h = absurd (cc)
not_false false h = refl

pub false_of_not : (b : Bool) → IsTrue (not b) → b ≡ false
false_of_not true h = absurd (cc)
false_of_not false h = refl

-- what the words of a line say
shown : (times : TimeRanges) (line : List ℕ) → is_skipped line ≡ false → is_permitted_line line ≡ true
    → ReadsStripped times line (in_line (read_words times (words_of line)))
shown times line visible permitted = go (some_form (words_of line))
  where
    by_form : (form : LineForm) → has_form form (words_of line) ≡ true → (wrong : Option Kind)
        → wrong_word times form (words_of line) ≡ wrong
        → ReadsStripped times line (in_line (unless wrong (meaning form (words_of line))))
    by_form form h None e = (
      not_false (is_skipped line) visible,
      (permitted, record { form = form; has = h; right = e; says = refl }),
    )
    by_form form h (Some kind) e = (
      not_false (is_skipped line) visible,
      inr (permitted, record { form = form; has = h; wrong = e }),
    )

    go : ((form : LineForm) × (has_form form (words_of line) ≡ true)) ⊎ HasNoForm (words_of line)
        → ReadsStripped times line (in_line (read_words times (words_of line)))
    go (inl found) =
        let Here : Result Command Kind → Type 0 = λ r. ReadsStripped times line (in_line r) in
        subst Here (sym (read_form times found.0 (words_of line) found.1))
        (by_form found.0 found.1 (wrong_word times found.0 (words_of line)) refl)
    go (inr none) =
        let Here : Result Command Kind → Type 0 = λ r. ReadsStripped times line (in_line r) in
        subst Here (sym (read_none times (words_of line) none))
        (not_false (is_skipped line) visible, inl (refl, inr none))

-- a line is what its reader says
pub reads : (times : TimeRanges) (line : List ℕ) → ReadsStripped times line (read_line times line)
reads times line = go (is_skipped line) (is_permitted_line line) refl refl
  where
    go : (skipped permitted : Bool) → is_skipped line ≡ skipped → is_permitted_line line ≡ permitted
        → ReadsStripped times line (cond skipped (Ok None)
        (cond permitted (in_line (read_words times (words_of line))) (Err Word)))
    go true permitted e f = e
    go false true e f = shown times line e f
    go false false e f =
        (not_false (is_skipped line) e, inl (refl, inl (not_false (is_permitted_line line) f)))

-- the reader of a line that isn't skipped
visible_line : (times : TimeRanges) (line : List ℕ) → IsTrue (not (is_skipped line))
    → read_line times line
    ≡ cond (is_permitted_line line) (in_line (read_words times (words_of line))) (Err Word)
visible_line times line h =
    ap (λ b. cond b (Ok None) (cond (is_permitted_line line) (in_line (read_words times (words_of line))) (Err Word)))
    (false_of_not (is_skipped line) h)

pub words_line : (times : TimeRanges) (line : List ℕ) → IsTrue (not (is_skipped line)) →
    IsTrue (is_permitted_line line)
    → read_line times line ≡ in_line (read_words times (words_of line))
words_line times line h permitted =
    visible_line times line h
    ∙ ap (λ b. cond b (in_line (read_words times (words_of line))) (Err Word)) permitted

word_either_way : (b : Bool) (r : Result Command Kind) → r ≡ Err Word
    → cond b (in_line r) (Err Word) ≡ Err Word
word_either_way true r h = ap in_line h
word_either_way false r h = refl

-- and nothing else
pub only : (times : TimeRanges) (line : List ℕ) (reading : Result (Option Command) Kind) → ReadsStripped times line reading
    → reading ≡ read_line times line
only times line (Ok None) h =
    sym (ap (λ b. cond b (Ok None) (cond (is_permitted_line line) (in_line (read_words times (words_of line))) (Err Word))) h)
only times line (Ok (Some command)) h =
    let says : read_words times (words_of line) ≡ Ok command =
    read_form times h.1.1.form (words_of line) h.1.1.has
    ∙ (ap (λ wrong. unless wrong (meaning h.1.1.form (words_of line))) h.1.1.right
    ∙ ap Ok (sym h.1.1.says)) in
    sym (words_line times line h.0 h.1.0 ∙ ap in_line says)
only times line (Err kind) h = go h.1
  where
    go : ((kind ≡ Word) × IsNoLine line) ⊎ (IsTrue (is_permitted_line line) × IsWrong times (words_of line) kind)
        → Err kind ≡ read_line times line
    go (inl (e, inl unpermitted)) =
        sym (visible_line times line h.0
        ∙ (ap (λ b. cond b (in_line (read_words times (words_of line))) (Err Word))
        (false_of_not (is_permitted_line line) unpermitted)
        ∙ ap Err (sym e)))
    go (inl (e, inr none)) =
        sym (visible_line times line h.0
        ∙ (word_either_way (is_permitted_line line) (read_words times (words_of line))
        (read_none times (words_of line) none)
        ∙ ap Err (sym e)))
    go (inr (permitted, wrong)) =
        let says : read_words times (words_of line) ≡ Err kind =
        read_form times wrong.form (words_of line) wrong.has
        ∙ ap (λ w. unless w (meaning wrong.form (words_of line))) wrong.wrong in
        sym (words_line times line h.0 permitted ∙ ap in_line says)

-- no line is two things
pub one_reading : (times : TimeRanges) (line : List ℕ) (one two : Result (Option Command) Kind)
    → ReadsLine times line one → ReadsLine times line two → one ≡ two
one_reading times line one two h g =
    only times (strip_carriage_return line) one h ∙ sym (only times (strip_carriage_return line) two g)

-- each line is something
pub some_reading : (times : TimeRanges) (line : List ℕ)
    → (reading : Result (Option Command) Kind) × ReadsLine times line reading
some_reading times line =
    (read_line times (strip_carriage_return line), reads times (strip_carriage_return line))

-- an answer of the reader is what the line is
pub found_of : (times : TimeRanges) (line : List ℕ) (result : Result (Option Command) LineStop)
    → AnswersReading result (read_line times (strip_carriage_return line))
    → IfOk result (λ command. ReadsLine times line (Ok command))
found_of times line (Ok command) h =
    let Here : Result (Option Command) Kind → Type 0 = λ r. ReadsLine times line r in
    subst Here h (reads times (strip_carriage_return line))
found_of times line (Err stop) h = tt

pub refused_of : (times : TimeRanges) (line : List ℕ) (result : Result (Option Command) LineStop)
    → AnswersReading result (read_line times (strip_carriage_return line))
    → IfErr result (λ stop. Refuses times line stop)
refused_of times line (Ok command) h = tt
refused_of times line (Err (Fault kind)) h =
    let Here : Result (Option Command) Kind → Type 0 = λ r. ReadsLine times line r in
    subst Here h (reads times (strip_carriage_return line))
refused_of times line (Err (Memory none)) h = tt

pub only_of : (times : TimeRanges) (line : List ℕ) (result : Result (Option Command) LineStop)
    → AnswersReading result (read_line times (strip_carriage_return line))
    → (reading : Result (Option Command) Kind) → ReadsLine times line reading
    → AnswersReading result reading
only_of times line (Ok command) h reading g = only times (strip_carriage_return line) reading g ∙ h
only_of times line (Err (Fault kind)) h reading g = only times (strip_carriage_return line) reading g ∙ h
only_of times line (Err (Memory none)) h reading g = tt
