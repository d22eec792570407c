-- What is said of the lines of a script is one text, and there is one.
use Rattle.std.proofs.Common.{◌≡◌, ◌∙◌, ℕ, zero, suc, ◌+◌, ◌-◌, ◌<◌, ◌≤◌, Option, Some, None, Result, Ok, Err, List, [], ◌∷◌, ◌++◌, length, drop, refl, sym, ap, subst, arith, append_assoc}
use Rattle.std.specs.Prelude.{slice_index_or}
use Rattle.std.proofs.lemmas.List.{drop_all}
use Rattle.port_state.specs.declared.ranges.TimeRanges.{TimeRanges}
use Rattle.script_lines.specs.declared.kind.Kind.{Kind}
use Rattle.script_lines.specs.declared.kind.ScriptFault.{ScriptFault}
use Rattle.script_lines.specs.declared.command.Command.{Command}
use Rattle.script_lines.specs.Line.{ReadsLine}
use Rattle.script_lines.proofs.Lemmas.{one_reading, some_reading}
use Rattle.script_words.specs.Before.{ranges_of}
use Rattle.script_words.specs.LineFault.{IsLineFault, IsFaultAt}
use Rattle.bus_view.specs.declared.form.ExplainForm.{ExplainForm}
use Rattle.bus_view.specs.Explained.{told_in, line_said, AreSaid, IsBehind, IsExplained}

abbrev Reading : Type 0
Reading = Result (Option Command) Kind

-- ---- a line has one fault or none

same-kind : (j k : Kind) → ◌≡◌ {A = Reading} (Err j) (Err k) → j ≡ k
same-kind j k e = cc

not-both : (c : Option Command) (k : Kind) → ◌≡◌ {A = Reading} (Ok c) (Err k) → ⊥
not-both c k e = cc

one-fault : (times : TimeRanges) (line : List ℕ) (a b : Option Kind) → IsLineFault times line a →
    IsLineFault times line b → a ≡ b
one-fault times line None None x y = refl
one-fault times line None (Some k) x y = absurd (x k y)
one-fault times line (Some j) None x y = absurd (y j x)
one-fault times line (Some j) (Some k) x y =
    ap (λ (i : Kind). Some i) (same-kind j k (one_reading times line (Err j) (Err k) x y))

some-fault : (times : TimeRanges) (line : List ℕ) → (fault : Option Kind) × IsLineFault times line fault
some-fault times line = let r = some_reading times line in go r.0 r.1
  where
    go : (r : Reading) → ReadsLine times line r →
        (fault : Option Kind) × IsLineFault times line fault
    go (Ok c) is = (None, λ kind bad. not-both c kind (one_reading times line (Ok c) (Err kind) is bad))
    go (Err kind) is = (Some kind, is)

-- ---- so lines have one text

one-said : (form : ExplainForm) (script : List (List ℕ)) (number : ℕ) (lines : List (List ℕ)) (a b : List ℕ) →
    AreSaid form script number lines a → AreSaid form script number lines b → a ≡ b
one-said form script number [] a b x y = x ∙ sym y
one-said form script number (line ∷ lines) a b x y =
    let fault : x.0 ≡ y.0 = one-fault (ranges_of script) line x.0 y.0 x.1 y.1 in
    let rest : x.2.0 ≡ y.2.0 = one-said form script (number + 1) lines x.2.0 y.2.0 x.2.1 y.2.1 in
    x.2.2 ∙ ap (λ (f : Option Kind). line_said form script number f ++ x.2.0) fault
    ∙ ap (λ (r : List ℕ). line_said form script number y.0 ++ r) rest ∙ sym y.2.2

some-said : (form : ExplainForm) (script : List (List ℕ)) (number : ℕ) (lines : List (List ℕ)) →
    (text : List ℕ) × AreSaid form script number lines text
some-said form script number [] = ([], refl)
some-said form script number (line ∷ lines) =
    let fault = some-fault (ranges_of script) line in
    let rest = some-said form script (number + 1) lines in
    (line_said form script number fault.0 ++ rest.0, (fault.0, fault.1, (rest.0, rest.1, refl)))

one-behind : (form : ExplainForm) (script : List (List ℕ)) (line : ℕ) (own : Option Kind) (a b : List ℕ) →
    IsBehind form script line own a → IsBehind form script line own b → a ≡ b
one-behind form script line None a b x y = x ∙ sym y
one-behind form script line (Some kind) a b x y = one-said form script (line + 1) (drop line script) a b x y

some-behind : (form : ExplainForm) (script : List (List ℕ)) (line : ℕ) (own : Option Kind) →
    (text : List ℕ) × IsBehind form script line own text
some-behind form script line None = ([], refl)
some-behind form script line (Some kind) = some-said form script (line + 1) (drop line script)

pub one_explained : (form : ExplainForm) (script : List (List ℕ)) (fault : ScriptFault) (a b : List ℕ) →
    IsExplained form script fault a → IsExplained form script fault b → a ≡ b
one_explained form script fault a b x y =
    let own : x.own ≡ y.own = one-fault (ranges_of script) (slice_index_or script (fault.line - 1) []) x.own y.own x.is_own y.is_own in
    let rest : x.rest ≡ y.rest = one-behind form script fault.line y.own x.rest y.rest
    (subst (λ (o : Option Kind). IsBehind form script fault.line o x.rest) own x.behind) y.behind in
    x.text_is ∙ ap (λ (r : List ℕ). told_in form script fault ++ r) rest ∙ sym y.text_is

pub some_explained : (form : ExplainForm) (script : List (List ℕ)) (fault : ScriptFault) →
    (text : List ℕ) × IsExplained form script fault text
some_explained form script fault =
    let own = some-fault (ranges_of script) (slice_index_or script (fault.line - 1) []) in
    let rest = some-behind form script fault.line own.0 in
    (told_in form script fault ++ rest.0, record { own = own.0; is_own = own.1; rest = rest.0; behind = rest.1; text_is = refl })

-- ---- line by line

line-at : (lines : List (List ℕ)) (k : ℕ) → k < length lines →
    drop k lines ≡ slice_index_or lines k [] ∷ drop (k + 1) lines
line-at [] k lt = absurd (omega (arith, lt))
line-at (x ∷ xs) zero lt = refl
line-at (x ∷ xs) (suc k) lt =
    let next : suc k + 1 ≡ suc (k + 1) = omega arith in rw next (line-at xs k (omega (arith, lt)))

-- a text, and then what is said of the lines from one on, is what is said of all
abbrev pub SaysSoFar : ExplainForm → List (List ℕ) → ℕ → ℕ → List ℕ → Type 0
SaysSoFar form script first number text =
    (rest : List ℕ) → AreSaid form script (number + 1) (drop number script) rest → AreSaid form script (first + 1) (drop first script) (text ++ rest)

pub says_none : (form : ExplainForm) (script : List (List ℕ)) (first : ℕ) (text : List ℕ) → text ≡ [] →
    SaysSoFar form script first first text
says_none form script first text e = λ rest said. rw e said

pub says_line :
    (form : ExplainForm) (script : List (List ℕ)) (first number : ℕ) (fault : Option Kind) (old new : List ℕ) →
    number < length script → IsFaultAt script number fault → new ≡ old ++ line_said form script (number + 1) fault →
    SaysSoFar form script first number old → SaysSoFar form script first (number + 1) new
says_line form script first number fault old new inside is e inv = λ rest said.
    let all : List ℕ = line_said form script (number + 1) fault ++ rest in
    let here : AreSaid form script (number + 1) (drop number script) all =
    subst (λ (ls : List (List ℕ)). AreSaid form script (number + 1) ls all) (sym (line-at script number inside)) (fault, is, (rest, said, refl)) in
    let same : old ++ all ≡ new ++ rest =
    sym (append_assoc old (line_said form script (number + 1) fault) rest) ∙ ap (λ (t : List ℕ). t ++ rest) (sym e) in
    subst (λ (t : List ℕ). AreSaid form script (first + 1) (drop first script) t) same (inv all here)

append-nothing : (xs : List ℕ) → xs ++ [] ≡ xs
append-nothing [] = refl
append-nothing (x ∷ xs) = ap (λ ys. x ∷ ys) (append-nothing xs)

pub says_all :
    (form : ExplainForm) (script : List (List ℕ)) (first number : ℕ) (text : List ℕ) → length script ≤ number →
    SaysSoFar form script first number text → AreSaid form script (first + 1) (drop first script) text
says_all form script first number text past inv =
    let none : AreSaid form script (number + 1) (drop number script) [] =
    subst (λ (ls : List (List ℕ)). AreSaid form script (number + 1) ls []) (sym (drop_all number script past)) refl in
    subst (λ (t : List ℕ). AreSaid form script (first + 1) (drop first script) t) (append-nothing text) (inv [] none)
