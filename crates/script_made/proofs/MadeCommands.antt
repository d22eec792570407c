-- Each line of a made script is its command's.
use Rattle.std.proofs.Common.{◌≡◌, ◌∙◌, ℕ, zero, suc, ◌+◌, ◌-◌, ◌^◌, ◌<◌, ◌≤◌, ◌%◌, codes, List, [], ◌∷◌, ◌++◌, Some, None, true, length, decimal, refl, ap, arith, append_assoc, append-nil}
use Rattle.std.proofs.Math.Nat.{mod-lt}
use Rattle.std.proofs.lemmas.Bool.Decides.{nat_tests}
use Rattle.std.proofs.lemmas.Fmt.{length-decimal-le, decimal_nonempty}
use Rattle.std.specs.Prelude.{not, nat_le, ◌==◌, Ok}
use Rattle.std.specs.List.{list_all, slice_split, AllZip}
use Rattle.std.proofs.lemmas.Bool.{and_from}
use Rattle.rand_pcg.specs.Lcg.{Lcg}
use Rattle.port_state.specs.declared.ranges.TimeRanges.{TimeRanges}
use Rattle.port_state.specs.TimeRanges.{profile_ranges}
use Rattle.script_made.specs.declared.made.End.{End}
use Rattle.script_lines.specs.declared.command.Command.{Command}
use Rattle.script_lines.specs.declared.command.Command.TheVariants.{Settle}
use Rattle.script_text.specs.ReportText.{numbered}
use Rattle.line_words.specs.Words.{is_some_text}
use Rattle.script_lines.specs.Words.{is_permitted}
use Rattle.line_words.specs.Digits.{of_digits}
use Rattle.script_lines.specs.Number.{number_of}
use Rattle.script_lines.specs.Name.{is_name_char, is_name}
use Rattle.script_lines.specs.Shape.{out_of}
use Rattle.script_lines.specs.Form.{plug, pull, turn, settle}
use Rattle.script_lines.specs.Line.{node, other, ReadsLine}
use Rattle.script_made.specs.Made.{generator, word, end_of, node_line, plug_line, pull_line, turn_line, for_each, made_lines, text_of, made_script}
use Rattle.script_made.specs.MadeRead.{made_name, declares, plugs, pulls, turns, made_commands, MadeIsRead, MadeIsSplit}
use Rattle.script_made.proofs.MadeSize.{Near, end-near}
use Rattle.script_made.proofs.MadeRead.{is_graphic, IsWord, spaced, widens, split_first, Says, read_as, is_digit_char, digit_chars, number_of-decimal}

-- ---- names and numbers

graphic_digit : (c : ℕ) → is_digit_char c ≡ true → is_graphic c ≡ true
graphic_digit c h = grind (arith, nat_tests)

name_digit : (c : ℕ) → is_digit_char c ≡ true → is_name_char c ≡ true
name_digit c h = grind (arith, nat_tests)

some_of : (text : List ℕ) → 0 < length text → is_some_text text ≡ true
some_of text h = grind (arith, nat_tests)

number_word : (n : ℕ) → n < 2 ^ 64 → IsWord (decimal n)
number_word n h = record {
  some = some_of (decimal n) (decimal_nonempty n h);
  chars = widens is_digit_char is_graphic graphic_digit (decimal n) (digit_chars n h);
}

name_word : (k : ℕ) → k ≤ 62 → IsWord (made_name k)
unfolding numbered
name_word k h = record {
  some = some_of (codes "n" ++ decimal k) (omega arith);
  chars = widens is_digit_char is_graphic graphic_digit (decimal k) (digit_chars k (omega (arith, h)));
}

few_chars : (k : ℕ) → k ≤ 62 → nat_le (length (codes "n" ++ decimal k)) 16 ≡ true
few_chars k h =
    let few : length (decimal k) ≤ 2 =
    length-decimal-le 2 k (omega arith) (omega (arith, h)) (omega (arith, h)) in
    grind (arith, nat_tests)

a_name_is : (k : ℕ) → k ≤ 62 → is_name (made_name k) ≡ true
unfolding numbered is_name
a_name_is k h =
    and_from (nat_le (length (codes "n" ++ decimal k)) 16) (list_all is_name_char (decimal k)) (few_chars k h)
    (widens is_digit_char is_name_char name_digit (decimal k) (digit_chars k (omega (arith, h))))

in_range : (least most n : ℕ) → least ≤ n → n ≤ most → out_of least most (Some n) ≡ None
in_range least most n low high =
    let above : nat_le least n ≡ true = grind (arith, nat_tests) in
    let below : nat_le n most ≡ true = grind (arith, nat_tests) in
    rw (above, below) refl

zero_is : number_of (codes "0") ≡ Some 0
unfolding number_of of_digits
zero_is = refl

one_is : number_of (codes "1") ≡ Some 1
unfolding number_of of_digits
one_is = refl

three_is : number_of (codes "3") ≡ Some 3
unfolding number_of of_digits
three_is = refl

-- ---- the lines

here : (text : List ℕ) → is_some_text text ≡ true → list_all is_graphic text ≡ true → IsWord text
here text some chars = record { some = some; chars = chars }

node_text : (k s : ℕ) → numbered (codes "node n") k ++ numbered (codes " 3 contender 1 seed ") s
    ≡ codes "node" ++ spaced (made_name k ∷ codes "3" ∷ codes "contender" ∷ codes "1" ∷ codes "seed" ∷ decimal s ∷ [])
unfolding numbered
node_text k s = rw (append-nil (decimal s)) refl

pub node_says : (times : TimeRanges) (seed k : ℕ) → k ≤ 62 → Says times (node_line seed k) (declares seed k)
unfolding node_line
node_says times seed k h =
    let s : ℕ = (seed + k) % 4294967296 in
    let small : s < 2 ^ 32 = mod-lt (seed + k) (omega arith) in
    let named : is_name (made_name k) ≡ true = a_name_is k h in
    let seeded : number_of (decimal s) ≡ Some s = number_of-decimal s small in
    let right : out_of 0 4294967295 (Some s) ≡ None = in_range 0 4294967295 s (omega arith) (omega (arith, small)) in
    read_as times (codes "node")
    (made_name k ∷ codes "3" ∷ codes "contender" ∷ codes "1" ∷ codes "seed" ∷ decimal s ∷ [])
    (numbered (codes "node n") k ++ numbered (codes " 3 contender 1 seed ") s)
    (declares seed k)
    (node_text k s) (
      here (codes "node") refl refl,
      (
        name_word k h,
        (
          here (codes "3") refl refl,
          (
            here (codes "contender") refl refl,
            (
              here (codes "1") refl refl,
              (here (codes "seed") refl refl, (number_word s (omega (arith, small)), tt)),
            ),
          ),
        ),
      ),
    )
    refl
    (record {
      form = node;
      has = refl;
      right = rw (named, three_is, one_is, seeded, right) refl;
      says = rw (three_is, one_is, seeded) refl;
    })

plug_text : (p q k : ℕ) →
    numbered (codes "plug n") p ++ (numbered (codes " ") q ++ (numbered (codes " n") k ++ codes " 0"))
    ≡ codes "plug" ++ spaced (made_name p ∷ decimal q ∷ made_name k ∷ codes "0" ∷ [])
unfolding numbered
plug_text p q k = refl

plug_says : (times : TimeRanges) (at : End) (k : ℕ) → Near 62 at → k ≤ 62 → Says times (plug_line at k) (plugs at k)
unfolding plug_line
plug_says times at k near h =
    let far : is_name (made_name at.node) ≡ true = a_name_is at.node near.node in
    let named : is_name (made_name k) ≡ true = a_name_is k h in
    let port : number_of (decimal at.port) ≡ Some at.port =
    number_of-decimal at.port (omega (arith, near.port)) in
    let right : out_of 0 4294967295 (Some at.port) ≡ None =
    in_range 0 4294967295 at.port (omega arith) (omega (arith, near.port)) in
    read_as times (codes "plug") (made_name at.node ∷ decimal at.port ∷ made_name k ∷ codes "0" ∷ [])
    (numbered (codes "plug n") at.node
    ++ (numbered (codes " ") at.port ++ (numbered (codes " n") k ++ codes " 0")))
    (plugs at k)
    (plug_text at.node at.port k) (
      here (codes "plug") refl refl,
      (
        name_word at.node near.node,
        (
          number_word at.port (omega (arith, near.port)),
          (name_word k h, (here (codes "0") refl refl, tt)),
        ),
      ),
    )
    refl
    (record {
      form = other plug;
      has = refl;
      right = rw (far, named, zero_is, port, right) refl;
      says = rw (zero_is, port) refl;
    })

pull_text : (k : ℕ) → numbered (codes "pull n") k ++ codes " 0"
    ≡ codes "pull" ++ spaced (made_name k ∷ codes "0" ∷ [])
unfolding numbered
pull_text k = refl

pull_says : (times : TimeRanges) (k : ℕ) → k ≤ 62 → Says times (pull_line k) (pulls k)
unfolding pull_line
pull_says times k h =
    let named : is_name (made_name k) ≡ true = a_name_is k h in
    read_as times (codes "pull") (made_name k ∷ codes "0" ∷ []) (numbered (codes "pull n") k ++ codes " 0")
    (pulls k) (pull_text k)
    (here (codes "pull") refl refl, (name_word k h, (here (codes "0") refl refl, tt)))
    refl
    (record { form = other pull; has = refl; right = rw (named, zero_is) refl; says = rw zero_is refl })

turn_text : (t : ℕ) → numbered (codes "turn ") t ≡ codes "turn" ++ spaced (decimal t ∷ [])
unfolding numbered
turn_text t = rw (append-nil (decimal t)) refl

turn_says : (times : TimeRanges) (w : ℕ) → Says times (turn_line w) (turns w)
unfolding turn_line
turn_says times w =
    let t : ℕ = w % 300 + 1 in
    let small : w % 300 < 300 = mod-lt w (omega arith) in
    let number : number_of (decimal t) ≡ Some t = number_of-decimal t (omega (arith, small)) in
    let right : out_of 1 2000000 (Some t) ≡ None = in_range 1 2000000 t (omega arith) (omega (arith, small)) in
    read_as times (codes "turn") (decimal t ∷ []) (numbered (codes "turn ") t) (turns w) (turn_text t)
    (here (codes "turn") refl refl, (number_word t (omega (arith, small)), tt))
    refl
    (record { form = other turn; has = refl; right = rw (number, right) refl; says = rw number refl })

settle_says : (times : TimeRanges) → Says times (codes "settle") Settle
settle_says times =
    read_as times (codes "settle") [] (codes "settle") Settle refl (here (codes "settle") refl refl, tt) refl
    (record { form = other settle; has = refl; right = refl; says = refl })

-- ---- all of them

abbrev Say : TimeRanges → List (List ℕ) → List Command → Type 0
Say times lines commands = AllZip (Says times) lines commands

joined : (times : TimeRanges) (xs : List (List ℕ)) (fs : List Command) (ys : List (List ℕ)) (gs : List Command)
    → Say times xs fs → Say times ys gs → Say times (xs ++ ys) (fs ++ gs)
joined times [] [] ys gs h rest = rest
joined times [] (f ∷ fs) ys gs h rest = absurd h
joined times (x ∷ xs) [] ys gs h rest = absurd h
joined times (x ∷ xs) (f ∷ fs) ys gs h rest = (h.0, joined times xs fs ys gs h.1 rest)

each_says : (times : TimeRanges) (n : ℕ) (lines : ℕ → List (List ℕ)) (commands : ℕ → List Command)
    → ((k : ℕ) → k < n → Say times (lines k) (commands k))
    → Say times (for_each n lines) (for_each n commands)
each_says times zero lines commands h = tt
each_says times (suc n) lines commands h =
    joined times (for_each n lines) (for_each n commands) (lines n) (commands n)
    (each_says times n lines commands (λ k less. h k (omega (arith, less)))) (h n (omega arith))

cable_says : (times : TimeRanges) (g : Lcg) (k : ℕ) → k < 62
    → Says times (plug_line (end_of g k) (suc k)) (plugs (end_of g k) (suc k))
cable_says times g k h =
    let near : Near k (end_of g k) = end-near g k in
    plug_says times (end_of g k) (suc k)
    (record { node = omega (arith, near.node, h); port = near.port }) (omega (arith, h))

made_says : (times : TimeRanges) (n seed : ℕ) → n ≤ 63 → Say times (made_lines n seed) (made_commands n seed)
unfolding made_lines made_commands
made_says times n seed h =
    let g : Lcg = generator seed in
    let c : ℕ = n - 1 in
    let few : c ≤ 62 = omega (arith, h) in
    let nodes = each_says times n (λ k. node_line seed k ∷ []) (λ k. declares seed k ∷ [])
    (λ k less. (node_says times seed k (omega (arith, less, h)), tt)) in
    let cables = each_says times c (λ k. plug_line (end_of g k) (suc k) ∷ []) (λ k. plugs (end_of g k) (suc k) ∷ [])
    (λ k less. (cable_says times g k (omega (arith, less, few)), tt)) in
    let again = each_says times c
    (λ k. pull_line (suc k) ∷ turn_line (word g (c + k)) ∷ plug_line (end_of g k) (suc k) ∷ [])
    (λ k. pulls (suc k) ∷ turns (word g (c + k)) ∷ plugs (end_of g k) (suc k) ∷ [])
    (λ k less. (
      pull_says times (suc k) (omega (arith, less, few)),
      (
        turn_says times (word g (c + k)),
        (cable_says times g k (omega (arith, less, few)), tt),
      ),
    )) in
    joined times _ _ _ _ nodes (joined times _ _ _ _ cables (settle_says times, again))

reads_of : (times : TimeRanges) (lines : List (List ℕ)) (commands : List Command) → Say times lines commands
    → AllZip (λ line command. ReadsLine times line (Ok (Some command))) lines commands
reads_of times [] [] h = tt
reads_of times [] (c ∷ cs) h = absurd h
reads_of times (l ∷ ls) [] h = absurd h
reads_of times (l ∷ ls) (c ∷ cs) h = (h.0.read, reads_of times ls cs h.1)

pub made_is_read : MadeIsRead
made_is_read times n seed h =
    reads_of times (made_lines n seed) (made_commands n seed) (made_says times n seed h)

no_feed : (c : ℕ) → is_permitted c ≡ true → not (c == 10) ≡ true
no_feed c h = grind (arith, nat_tests)

split_lines : (times : TimeRanges) (lines : List (List ℕ)) (commands : List Command) → Say times lines commands
    → slice_split (λ c. c == 10) (text_of lines) ≡ lines ++ [] ∷ []
split_lines times [] [] h = refl
split_lines times [] (c ∷ cs) h = absurd h
split_lines times (l ∷ ls) [] h = absurd h
split_lines times (l ∷ ls) (c ∷ cs) h =
    let none = widens is_permitted (λ c. not (c == 10)) no_feed l h.0.plain in
    ap (slice_split (λ c. c == 10)) (append_assoc l (codes "\n") (text_of ls))
    ∙ (split_first (λ c. c == 10) 10 l (text_of ls) refl none
    ∙ ap (λ lines. l ∷ lines) (split_lines times ls cs h.1))

pub made_is_split : MadeIsSplit
unfolding made_script
made_is_split n seed h =
    let times : TimeRanges = profile_ranges 4 in
    split_lines times (made_lines n seed) (made_commands n seed) (made_says times n seed h)
