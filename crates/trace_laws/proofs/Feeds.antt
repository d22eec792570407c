-- The line of an event ends at its one line feed.
use Rattle.std.proofs.Common.{◌≡◌, inl, inr, ℕ, zero, suc, ◌+◌, ◌/◌, ◌%◌, ◌^◌, ◌*◌, ◌==◌, ◌&&◌, not, Bool, true, false, List, [], ◌∷◌, ◌++◌, Option, Some, None, length, drop, append_assoc, length-append, refl, sym, ◌∙◌, ap, arith}
use Rattle.std.specs.Prelude.{All, codes, decimal, nat_lt, if◌then◌else◌}
use Rattle.std.specs.Fmt.{digit_glyph, digits_onto, digits}
use Rattle.std.proofs.lemmas.Bool.Decides.{nat_tests}
use Rattle.std.proofs.lemmas.Bool.{and_from, and_parts}
use Rattle.std.proofs.lemmas.List.Elements.{All-head, All-tail}
use Rattle.topology_stack.specs.Name.{IsNameChar}
use Rattle.topology_stack.specs.Hex.{hex, hex_digit}
use Rattle.port_state.specs.declared.signal.Phase.{Phase}
use Rattle.port_state.specs.declared.signal.Phase.TheVariants as phase
use Rattle.port_state.specs.declared.signal.Signal.{Signal}
use Rattle.port_state.specs.declared.signal.Signal.TheVariants as signal
use Rattle.trace_event.specs.declared.event.Event.{Event}
use Rattle.trace_event.specs.declared.event.Part.{Part}
use Rattle.trace_event.specs.declared.event.What.{What}
use Rattle.trace_event.specs.declared.event.What.TheVariants.{Plug, Pull, Reset, Hold, Config, Enters, Timeout, ToParent, ToChild, Coin, PhyId, Sends, Misses}
use Rattle.trace_event.specs.Event.{numbered, state_words, signal_words, choice, coin_digit, name_word, end_words, port_words, what_words, event_line, HasNames}
use Rattle.trace_event.specs.Stands.{bytes_of, IsNameIn}
use Rattle.trace_laws.specs.Traces.{LinesEndOnce}

-- no line feed
abbrev feedless : List ℕ → Bool
feedless [] = true
feedless (c ∷ cs) = not (c == 10) && feedless cs

both : (xs ys : List ℕ) → feedless xs ≡ true → feedless ys ≡ true → feedless (xs ++ ys) ≡ true
both [] ys p q = q
both (c ∷ xs) ys p q =
    let h = and_parts (not (c == 10)) (feedless xs) p in
    and_from (not (c == 10)) (feedless (xs ++ ys)) h.0 (both xs ys h.1 q)

either : (b : Bool) (xs ys : List ℕ) → feedless xs ≡ true → feedless ys ≡ true →
    feedless (if b then xs else ys) ≡ true
either true xs ys p q = p
either false xs ys p q = q

-- ---- words

glyph : (d : ℕ) → not (digit_glyph false d == 10) ≡ true
glyph d = go (nat_lt d 10)
  where
    go : (b : Bool) → not ((if b then 48 + d else 87 + d) == 10) ≡ true
    go true = grind (arith, nat_tests)
    go false = grind (arith, nat_tests)

onto : (k n : ℕ) (acc : List ℕ) → feedless acc ≡ true → feedless (digits_onto k 10 false n acc) ≡ true
onto zero n acc h = h
onto (suc k) n acc h =
    let more : feedless (digit_glyph false (n % 10) ∷ acc) ≡ true = and_from _ _ (glyph (n % 10)) h in
    either (n / 10 == 0) (digit_glyph false (n % 10) ∷ acc) (digits_onto k 10 false (n / 10) (digit_glyph false (n % 10) ∷ acc))
    more (onto k (n / 10) (digit_glyph false (n % 10) ∷ acc) more)

number : (n : ℕ) → feedless (decimal n) ≡ true
unfolding digits
number n = onto 64 n [] refl

word : (w : List ℕ) (n : ℕ) → feedless w ≡ true → feedless (numbered w n) ≡ true
word w n h = both w (decimal n) h (number n)

hex-digit : (d : ℕ) → not (hex_digit d == 10) ≡ true
hex-digit d = go (nat_lt d 10)
  where
    go : (b : Bool) → not ((if b then 48 + d else 87 + d) == 10) ≡ true
    go true = grind (arith, nat_tests)
    go false = grind (arith, nat_tests)

hex-word : (k q : ℕ) → feedless (hex k q) ≡ true
hex-word zero q = refl
hex-word (suc k) q = and_from _ _ (hex-digit (q / 2 ^ (4 * k) % 16)) (hex-word k q)

name-char : (c : ℕ) → IsNameChar c → not (c == 10) ≡ true
name-char c (inl letter) = grind (arith, nat_tests)
name-char c (inr (inl digit)) = grind (arith, nat_tests)
name-char c (inr (inr line)) = grind (arith, nat_tests)

chars : (cs : List ℕ) → All IsNameChar cs → feedless cs ≡ true
chars [] all = refl
chars (c ∷ cs) all =
    and_from _ _ (name-char c (All-head IsNameChar c cs all)) (chars cs (All-tail IsNameChar c cs all))

state : (p : Phase) → feedless (state_words p) ≡ true
state phase.ResetStart = refl
state phase.ResetWait = refl
state phase.TreeStart = refl
state phase.ChildShake = refl
state phase.ParentShake = refl
state phase.Contend = refl
state phase.SelfIdent = refl
state phase.Ready = refl

sent : (s : Signal) → feedless (signal_words s) ≡ true
sent signal.Reset = refl
sent signal.Idle = refl
sent signal.Parent = refl
sent signal.Child = refl
sent signal.Grant = refl
sent (signal.Packet quad) = both (codes " packet ") (hex 8 quad) refl (hex-word 8 quad)
sent signal.Done = refl

chosen : (o : Option ℕ) → feedless (choice o) ≡ true
chosen None = refl
chosen (Some n) = word (codes " ") n refl

coin : (o : Option ℕ) → feedless (coin_digit o) ≡ true
coin None = refl
coin (Some n) = word (codes " ") n refl

-- ---- what happens

module _ (text : List ℕ) where
  named : (p : Part) → IsNameIn text p → feedless (name_word text p) ≡ true
  named p is = both (codes " ") (bytes_of text p) refl (chars (bytes_of text p) is.name.chars)

  ended : (p : Part) (port : ℕ) → IsNameIn text p → feedless (end_words text p port) ≡ true
  ended p port is = both (name_word text p) (numbered (codes " ") port) (named p is) (word (codes " ") port refl)

  ported : (p : Part) (port : ℕ) → IsNameIn text p → feedless (port_words text p port) ≡ true
  ported p port is =
      both (name_word text p) (numbered (codes " port ") port) (named p is) (word (codes " port ") port refl)

  words : (what : What) → HasNames text what → feedless (what_words text what) ≡ true
  words (Plug a a_port b b_port) h =
      both (codes " plug") (end_words text a a_port ++ end_words text b b_port) refl
      (both (end_words text a a_port) (end_words text b b_port) (ended a a_port h.0) (ended b b_port h.1))
  words (Pull name port) h = both (codes " pull") (end_words text name port) refl (ended name port h)
  words (Reset name) h = both (codes " reset") (name_word text name) refl (named name h)
  words (Hold name port turns) h =
      both (codes " hold") (end_words text name port ++ numbered (codes " ") turns) refl
      (both (end_words text name port) (numbered (codes " ") turns) (ended name port h) (word (codes " ") turns refl))
  words (Config name root_id gap) h =
      both (codes " config") (name_word text name ++ (choice root_id ++ choice gap)) refl
      (both (name_word text name) (choice root_id ++ choice gap) (named name h)
      (both (choice root_id) (choice gap) (chosen root_id) (chosen gap)))
  words (Enters node p) h = both (name_word text node) (state_words p) (named node h) (state p)
  words (Timeout node) h = both (name_word text node) (codes " configuration timeout") (named node h) refl
  words (ToParent node port) h = both (port_words text node port) (codes " to its parent") (ported node port h) refl
  words (ToChild node port) h = both (port_words text node port) (codes " to a child") (ported node port h) refl
  words (Coin node c wait) h =
      both (name_word text node) (codes " coin" ++ (coin_digit c ++ numbered (codes " wait ") wait)) (named node h)
      (both (codes " coin") (coin_digit c ++ numbered (codes " wait ") wait) refl
      (both (coin_digit c) (numbered (codes " wait ") wait) (coin c) (word (codes " wait ") wait refl)))
  words (PhyId node id) h =
      both (name_word text node) (numbered (codes " phy_ID ") id) (named node h) (word (codes " phy_ID ") id refl)
  words (Sends node port s) h =
      both (port_words text node port) (codes " sends" ++ signal_words s) (ported node port h)
      (both (codes " sends") (signal_words s) refl (sent s))
  words (Misses node) h = both (name_word text node) (codes " misses a tick") (named node h) refl

  -- what a line has before its line feed
  abbrev inner : Event → List ℕ
  inner e = numbered (codes "turn ") e.turn ++ what_words text e.what

  inner-feedless : (e : Event) → HasNames text e.what → feedless (inner e) ≡ true
  inner-feedless e h =
      both (numbered (codes "turn ") e.turn) (what_words text e.what) (word (codes "turn ") e.turn refl) (words e.what h)

-- ---- one line feed

first-feed :
    (v w r s : List ℕ) → feedless v ≡ true → feedless w ≡ true → v ++ (10 ∷ r) ≡ w ++ (10 ∷ s) → length v ≡ length w
first-feed [] [] r s p q e = refl
first-feed [] (c ∷ w) r s p q e = absurd (let c_is : 10 ≡ c = cc in no c c_is q)
  where
    no : (c : ℕ) → 10 ≡ c → (not (c == 10) && feedless w) ≡ true → ⊥
    no c is h = let test : (c == 10) ≡ true = grind (arith, nat_tests, is) in absurd (let f : (not (c == 10) && feedless w) ≡ false = rw test refl in cc)
first-feed (c ∷ v) [] r s p q e = absurd (let c_is : c ≡ 10 = cc in no c c_is p)
  where
    no : (c : ℕ) → c ≡ 10 → (not (c == 10) && feedless v) ≡ true → ⊥
    no c is h = let test : (c == 10) ≡ true = grind (arith, nat_tests, is) in absurd (let f : (not (c == 10) && feedless v) ≡ false = rw test refl in cc)
first-feed (c ∷ v) (d ∷ w) r s p q e =
    let rest : v ++ (10 ∷ r) ≡ w ++ (10 ∷ s) = cc in
    ap suc (first-feed v w r s (and_parts (not (c == 10)) (feedless v) p).1 (and_parts (not (d == 10)) (feedless w) q).1 rest)

-- the place behind a line
line-parts : (text : List ℕ) (e : Event) (rest : List ℕ) →
    event_line text e ++ rest ≡ inner text e ++ (10 ∷ rest)
line-parts text e rest =
    ap (λ (l : List ℕ). l ++ rest) (sym (append_assoc (numbered (codes "turn ") e.turn) (what_words text e.what) (codes "\n")))
    ∙ append_assoc (inner text e) (codes "\n") rest

line-length : (text : List ℕ) (e : Event) → length (event_line text e) ≡ length (inner text e) + 1
line-length text e =
    ap length (sym (append_assoc (numbered (codes "turn ") e.turn) (what_words text e.what) (codes "\n")))
    ∙ length-append (inner text e) (codes "\n")

pub lines-end-once : LinesEndOnce
lines-end-once text at one other next last x y =
    let same : inner text one ++ (10 ∷ drop next text) ≡ inner text other ++ (10 ∷ drop last text) =
    sym (line-parts text one (drop next text)) ∙ sym x.line.is ∙ y.line.is ∙ line-parts text other (drop last text) in
    let long : length (inner text one) ≡ length (inner text other) =
    first-feed (inner text one) (inner text other) (drop next text) (drop last text)
    (inner-feedless text one x.names) (inner-feedless text other y.names) same in
    omega (arith, x.line.next_is, y.line.next_is, line-length text one, line-length text other, long)
