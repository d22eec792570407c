-- A line `turn K` with one blank in it.
use Rattle.std.proofs.Common.{◌≡◌, ◌∙◌, ℕ, ◌<◌, ◌≤◌, List, [], ◌∷◌, ◌++◌, codes, Some, None, true, ◌&&◌, length, refl, sym, ap, subst, arith}
use Rattle.std.specs.Prelude.{filter, position, cond, nat_le, Ok}
use Rattle.std.specs.Option.{option_or}
use Rattle.std.proofs.lemmas.Bool.Decides.{nat_tests}
use Rattle.port_state.specs.declared.ranges.TimeRanges.{TimeRanges}
use Rattle.script_lines.specs.declared.command.Command.TheVariants.{Turn}
use Rattle.script_lines.specs.declared.kind.Kind.TheVariants.{Range}
use Rattle.line_words.specs.Words.{is_some_text}
use Rattle.script_lines.specs.Words.{is_blank, words_of}
use Rattle.script_lines.specs.Number.{number_of}
use Rattle.script_lines.specs.Shape.{out_of, wrong_number}
use Rattle.script_lines.specs.Form.{turn}
use Rattle.script_lines.specs.Line.{IsCommand, ReadsStripped, other}
use Rattle.script_lines.proofs.Parts.{words_cut}
use Rattle.script_lines.proofs.Shown.{UncutSo, uncut_all, number_shown}

one-text : (text : List ℕ) → 0 < length text → filter is_some_text (text ∷ []) ≡ text ∷ []
one-text [] some = absurd (omega (arith, some))
one-text (c ∷ cs) some = grind (arith, nat_tests)

two-words : (word : List ℕ) → 0 < length word → UncutSo word →
    words_of (codes "turn " ++ word) ≡ codes "turn" ∷ word ∷ []
two-words word some uncut =
    let blank : position is_blank (codes "turn " ++ word) ≡ Some 4 = grind (arith, nat_tests) in
    words_cut is_blank (codes "turn " ++ word) 4 blank
    ∙ ap (λ (words : List (List ℕ)). codes "turn" ∷ words) (uncut.words ∙ one-text word some)

is-in-range : (word : List ℕ) (count : ℕ) → number_of word ≡ Some count → 1 ≤ count → count ≤ 2000000 →
    wrong_number 1 2000000 word ≡ None
is-in-range word count number least most =
    let inside : (nat_le 1 count && nat_le count 2000000) ≡ true = grind (arith, nat_tests, least, most) in
    ap (out_of 1 2000000) number ∙ ap (λ b. cond b None (Some Range)) inside

is-turn : (times : TimeRanges) (word : List ℕ) (count : ℕ) → wrong_number 1 2000000 word ≡ None →
    number_of word ≡ Some count → IsCommand times (codes "turn" ∷ word ∷ []) (Turn count)
is-turn times word count right number = record {
  form = other turn;
  has = refl;
  right = ap (λ wrong. option_or wrong None) right;
  says = rw number refl;
}

pub turn_reads :
    (line word : List ℕ) (count : ℕ) → line ≡ codes "turn " ++ word → number_of word ≡ Some count →
    1 ≤ count → count ≤ 2000000 → (times : TimeRanges) →
    ReadsStripped times line (Ok (Some (Turn count)))
turn_reads line word count is number least most times =
    let shown = number_shown word count number in
    let uncut : UncutSo word = uncut_all word shown.1 in
    let words : words_of (codes "turn " ++ word) ≡ codes "turn" ∷ word ∷ [] = two-words word shown.0 uncut in
    subst (λ (l : List ℕ). ReadsStripped times l (Ok (Some (Turn count)))) (sym is) (
      refl,
      (
        uncut.permitted,
        subst (λ (ws : List (List ℕ)). IsCommand times ws (Turn count)) (sym words)
            (is-turn times word count (is-in-range word count number least most) number),
      ),
    )
