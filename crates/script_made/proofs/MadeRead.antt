-- The lines of a made script are read as its commands.
use Rattle.std.proofs.Common.{◌≡◌, ◌∙◌, ℕ, ◌+◌, ◌-◌, ◌*◌, ◌^◌, ◌<◌, codes, List, [], ◌∷◌, ◌++◌, Some, Bool, true, false, ◌&&◌, length, take, get_or, decimal, refl, sym, subst, ap, arith, append-nil}
use Rattle.std.proofs.lemmas.Bool.Decides.{nat_tests}
use Rattle.std.proofs.lemmas.List.Folds.{list_all-append}
use Rattle.std.proofs.lemmas.List.Sums.{AllPass-from_list_all}
use Rattle.std.proofs.lemmas.Fmt.{length-decimal-le, decimal_nonempty, decimal_is_IsNumeral}
use Rattle.std.specs.Prelude.{cond, not, nat_le, nat_lt, fold, filter, ◌==◌, Ok}
use Rattle.std.specs.Char.{digit_value}
use Rattle.std.specs.List.{list_all, slice_split, onto_first}
use Rattle.std.specs.Str.{bytes_eq}
use Rattle.std.specs.Str.Lines.{strip_carriage_return}
use Rattle.std.specs.Str.Parse.{AllDigits, digits_value_after}
use Rattle.std.proofs.lemmas.Bool.{and_parts, and_from}
use Rattle.port_state.specs.declared.ranges.TimeRanges.{TimeRanges}
use Rattle.script_lines.specs.declared.command.Command.{Command}
use Rattle.line_words.specs.Words.{is_some_text, words_by}
use Rattle.script_lines.specs.Words.{is_blank, is_permitted, words_of}
use Rattle.line_words.specs.Digits.{of_digits}
use Rattle.script_lines.specs.Number.{number_of}
use Rattle.script_lines.specs.Line.{IsCommand, is_skipped, ReadsStripped, ReadsLine}

-- ---- a line of words

-- no blank, and no character that isn't permitted
abbrev pub is_graphic : ℕ → Bool
is_graphic c = nat_le 33 c && nat_le c 126

pub record IsWord (text : List ℕ) : Type 0 where
  pub some : is_some_text text ≡ true
  pub chars : list_all is_graphic text ≡ true

abbrev pub AreWords : List (List ℕ) → Type 0
AreWords [] = Unit {0}
AreWords (w ∷ ws) = IsWord w × AreWords ws

-- words behind others
abbrev pub spaced : List (List ℕ) → List ℕ
spaced [] = []
spaced (w ∷ ws) = 32 ∷ (w ++ spaced ws)

-- each character of one kind is of another
pub widens : (p q : ℕ → Bool) → ((c : ℕ) → p c ≡ true → q c ≡ true) → (cs : List ℕ)
    → list_all p cs ≡ true → list_all q cs ≡ true
widens p q h [] all = refl
widens p q h (c ∷ cs) all =
    let parts : (p c ≡ true) × (list_all p cs ≡ true) = and_parts (p c) (list_all p cs) all in
    and_from (q c) (list_all q cs) (h c parts.0) (widens p q h cs parts.1)

unless_cut : {A : Type 0} (b : Bool) (x y : A) → not b ≡ true → cond b x y ≡ y
unless_cut true x y h = absurd (cc)
unless_cut false x y h = refl

-- what stands before the first separator
pub split_first : (p : ℕ → Bool) (s : ℕ) (text rest : List ℕ) → p s ≡ true
    → list_all (λ c. not (p c)) text ≡ true
    → slice_split p (text ++ s ∷ rest) ≡ text ∷ slice_split p rest
split_first p s [] rest here none = rw here refl
split_first p s (c ∷ cs) rest here none =
    let parts : (not (p c) ≡ true) × (list_all (λ c. not (p c)) cs ≡ true) =
    and_parts (not (p c)) (list_all (λ c. not (p c)) cs) none in
    unless_cut (p c) ([] ∷ slice_split p (cs ++ s ∷ rest)) (onto_first c (slice_split p (cs ++ s ∷ rest))) parts.0
    ∙ ap (onto_first c) (split_first p s cs rest here parts.1)

split_none : (p : ℕ → Bool) (text : List ℕ) → list_all (λ c. not (p c)) text ≡ true
    → slice_split p text ≡ text ∷ []
split_none p [] none = refl
split_none p (c ∷ cs) none =
    let parts : (not (p c) ≡ true) × (list_all (λ c. not (p c)) cs ≡ true) =
    and_parts (not (p c)) (list_all (λ c. not (p c)) cs) none in
    unless_cut (p c) ([] ∷ slice_split p cs) (onto_first c (slice_split p cs)) parts.0
    ∙ ap (onto_first c) (split_none p cs parts.1)

no_blank : (c : ℕ) → is_graphic c ≡ true → not (is_blank c) ≡ true
no_blank c h = grind (arith, nat_tests)

permitted : (c : ℕ) → is_graphic c ≡ true → is_permitted c ≡ true
permitted c h = grind (arith, nat_tests)

split_words : (w : List ℕ) (ws : List (List ℕ)) → IsWord w → AreWords ws
    → slice_split is_blank (w ++ spaced ws) ≡ w ∷ ws
split_words w [] h hs =
    let none = widens is_graphic (λ c. not (is_blank c)) no_blank w h.chars in
    ap (slice_split is_blank) (append-nil w) ∙ split_none is_blank w none
split_words w (v ∷ ws) h hs =
    let none = widens is_graphic (λ c. not (is_blank c)) no_blank w h.chars in
    split_first is_blank 32 w (v ++ spaced ws) refl none
    ∙ ap (λ parts. w ∷ parts) (split_words v ws hs.0 hs.1)

kept : (ws : List (List ℕ)) → AreWords ws → filter is_some_text ws ≡ ws
kept [] h = refl
kept (w ∷ ws) h = go (is_some_text w) h.0.some (kept ws h.1)
  where
    go : (b : Bool) → b ≡ true → filter is_some_text ws ≡ ws
        → cond b (w ∷ filter is_some_text ws) (filter is_some_text ws) ≡ w ∷ ws
    go true e others = ap (λ others. w ∷ others) others
    go false e others = absurd (cc)

words_are : (w : List ℕ) (ws : List (List ℕ)) → IsWord w → AreWords ws →
    words_of (w ++ spaced ws) ≡ w ∷ ws
unfolding words_by
words_are w ws h hs = ap (filter is_some_text) (split_words w ws h hs) ∙ kept (w ∷ ws) (h, hs)

all_permitted : (w : List ℕ) (ws : List (List ℕ)) → IsWord w → AreWords ws
    → list_all is_permitted (w ++ spaced ws) ≡ true
all_permitted w [] h hs =
    list_all-append is_permitted w []
    ∙ and_from (list_all is_permitted w) true (widens is_graphic is_permitted permitted w h.chars) refl
all_permitted w (v ∷ ws) h hs =
    list_all-append is_permitted w (32 ∷ (v ++ spaced ws))
    ∙ and_from (list_all is_permitted w) (list_all is_permitted (v ++ spaced ws))
    (widens is_graphic is_permitted permitted w h.chars) (all_permitted v ws hs.0 hs.1)

no_return : (c : ℕ) → is_permitted c ≡ true → (c == 13) ≡ false
no_return c h = grind (arith, nat_tests)

-- no carriage return stands at the end
stripped : (line : List ℕ) → 0 < length line → list_all is_permitted line ≡ true
    → strip_carriage_return line ≡ line
stripped line some h =
    let last : is_permitted (get_or line (length line - 1) 0) ≡ true =
    AllPass-from_list_all is_permitted line h (length line - 1) 0 (omega (arith, some)) in
    unless_cut (get_or line (length line - 1) 0 == 13) (take (length line - 1) line) line
    (ap not (no_return (get_or line (length line - 1) 0) last))

some_length : (w rest : List ℕ) → is_some_text w ≡ true → 0 < length (w ++ rest)
some_length [] rest h = absurd (cc)
some_length (c ∷ cs) rest h = omega arith

-- a line is a command's, and has no line feed
pub record Says (times : TimeRanges) (line : List ℕ) (command : Command) : Type 0 where
  pub plain : list_all is_permitted line ≡ true
  pub read : ReadsLine times line (Ok (Some command))

-- what a line of words is, where they are those of a command
pub read_as : (times : TimeRanges) (w : List ℕ) (ws : List (List ℕ)) (line : List ℕ) (command : Command)
    → line ≡ w ++ spaced ws → AreWords (w ∷ ws) → is_skipped (w ++ spaced ws) ≡ false
    → IsCommand times (w ∷ ws) command → Says times line command
read_as times w ws line command line-is h visible is =
    let text : List ℕ = w ++ spaced ws in
    let all : list_all is_permitted text ≡ true = all_permitted w ws h.0 h.1 in
    let same : strip_carriage_return text ≡ text =
    stripped text (some_length w (spaced ws) h.0.some) all in
    let words : words_of text ≡ w ∷ ws = words_are w ws h.0 h.1 in
    let Are : List (List ℕ) → Type 0 = λ words. IsCommand times words command in
    let Is : List ℕ → Type 0 = λ text. ReadsStripped times text (Ok (Some command)) in
    let read : ReadsLine times text (Ok (Some command)) =
    subst Is (sym same) (ap not visible, (all, subst Are (sym words) is)) in
    let Said : List ℕ → Type 0 = λ line. Says times line command in
    subst Said (sym line-is) (record { plain = all; read = read })

-- ---- numbers

abbrev is_ten : ℕ → Bool
is_ten c = nat_lt (digit_value c) 10

below_ten : (ds : List ℕ) → AllDigits 10 ds → list_all is_ten ds ≡ true
below_ten [] h = refl
below_ten (c ∷ cs) h =
    let first : is_ten c ≡ true = grind (arith, nat_tests, h.0) in
    and_from (is_ten c) (list_all is_ten cs) first (below_ten cs h.1)

same_value : (ds : List ℕ) (n : ℕ) →
    fold (λ n c. n * 10 + digit_value c) n ds ≡ digits_value_after 10 n ds
same_value [] n = refl
same_value (c ∷ cs) n = same_value cs (n * 10 + digit_value c)

abbrev pub is_digit_char : ℕ → Bool
is_digit_char c = nat_le 48 c && nat_le c 57

digit_char : (c : ℕ) → is_ten c ≡ true → is_digit_char c ≡ true
digit_char c h = grind (arith, nat_tests)

pub digit_chars : (n : ℕ) → n < 2 ^ 64 → list_all is_digit_char (decimal n) ≡ true
digit_chars n h =
    widens is_ten is_digit_char digit_char (decimal n) (below_ten (decimal n) (decimal_is_IsNumeral n h).0.1)

no_prefix : (ds : List ℕ) → list_all is_ten ds ≡ true → bytes_eq (take 2 ds) (codes "0x") ≡ false
no_prefix [] h = refl
no_prefix (c ∷ []) h = go (c == 48)
  where
    go : (b : Bool) → (b && false) ≡ false
    go true = refl
    go false = refl
no_prefix (c ∷ e ∷ cs) h =
    let digit : is_ten e ≡ true = (and_parts (is_ten e) (list_all is_ten cs) (and_parts (is_ten c) (list_all is_ten (e ∷ cs)) h).1).0 in
    let no : (e == 120) ≡ false = grind (arith, nat_tests) in
    go (c == 48) (e == 120) no
  where
    go : (a b : Bool) → b ≡ false → (a && (b && true)) ≡ false
    go true true h = absurd (cc)
    go true false h = refl
    go false b h = refl

pub number_of-decimal : (n : ℕ) → n < 2 ^ 32 → number_of (decimal n) ≡ Some n
unfolding number_of of_digits
number_of-decimal n h =
    let ten : list_all is_ten (decimal n) ≡ true =
    below_ten (decimal n) (decimal_is_IsNumeral n (omega (arith, h))).0.1 in
    let value : fold (λ n c. n * 10 + digit_value c) 0 (decimal n) ≡ n =
    same_value (decimal n) 0 ∙ (decimal_is_IsNumeral n (omega (arith, h))).1 in
    let some : nat_lt 0 (length (decimal n)) ≡ true = grind (arith, nat_tests, decimal_nonempty n (omega (arith, h))) in
    let few : nat_le (length (decimal n)) 10 ≡ true =
    grind (arith, nat_tests, length-decimal-le 10 n (omega arith) (omega (arith, h)) (omega (arith, h))) in
    let small : nat_lt (fold (λ n c. n * 10 + digit_value c) 0 (decimal n)) (2 ^ 32) ≡ true =
    grind (arith, nat_tests, value, h) in
    let prefix = no_prefix (decimal n) ten in
    rw (prefix, some, few, ten, small, value) refl
