-- Lines with one name or two are lines of events.
use Rattle.std.proofs.Common.{◌≡◌, ℕ, ◌+◌, ◌<◌, List, ◌++◌, length, take, append_assoc, length-append, refl, ap, sym, subst, ◌∙◌, arith, rules}
use Rattle.std.specs.Prelude.{codes, decimal}
use Rattle.std.proofs.lemmas.List.{drop_at, take_at}
use Rattle.topology_stack.specs.Name.{IsName}
use Rattle.trace_event.specs.declared.event.Event.{Event}
use Rattle.trace_event.specs.declared.event.Part.{Part}
use Rattle.trace_event.specs.declared.event.What.{What}
use Rattle.trace_event.specs.Event.{numbered, name_word, what_words, event_line, HasNames, HasNumbers, IsShownAt}
use Rattle.trace_event.specs.Stands.{Stands, bytes_of, IsNameIn}
use Rattle.trace_laws.proofs.Lines.{stands, IsLine}

-- ---- names

-- the part of a text that a word is behind another
abbrev pub part_behind : List ℕ → List ℕ → Part
part_behind before word = record { start = length before; len = length word }

-- its bytes are the word
pub part-bytes :
    (before word rest : List ℕ) →
    bytes_of (before ++ (word ++ rest)) (part_behind before word) ≡ word
part-bytes before word rest =
    ap (λ (l : List ℕ). take (length word) l) (drop_at before (word ++ rest) (length before) refl)
    ∙ take_at word rest (length word) refl

-- so it is a name where the word is one
pub part-name :
    (before word rest : List ℕ) → IsName word →
    IsNameIn (before ++ (word ++ rest)) (part_behind before word)
part-name before word rest is = record {
  name = subst IsName (sym (part-bytes before word rest)) is;
  within = omega (arith, length-append before (word ++ rest), length-append word rest);
}

-- ---- what is shown

-- an event whose line is this word
pub shown :
    (before line rest : List ℕ) (event : Event) →
    event_line (before ++ (line ++ rest)) event ≡ line →
    HasNames (before ++ (line ++ rest)) event.what → event.turn < 4294967296 → HasNumbers event.what →
    IsShownAt (before ++ (line ++ rest)) (length before) event (length before + length line)
shown before line rest event same names turn numbers =
    let text : List ℕ = before ++ (line ++ rest) in
    record {
      is = record {
        line = subst (λ (word : List ℕ). Stands text (length before) word (length before + length line)) (sym same)
            (stands before line rest);
        names = names;
      };
      turn = turn;
      numbers = numbers;
    }

-- a part of the text of a line
regroup :
    (before pre name post rest : List ℕ) →
    before ++ ((pre ++ (name ++ post)) ++ rest) ≡ (before ++ pre) ++ (name ++ (post ++ rest))
regroup before pre name post rest = search (rules, append_assoc)

-- A line with one name: behind `pre` stands the name, and then `post`.
pub one-name :
    (line pre name post : List ℕ) (turn : ℕ) (what : Part → What) → line ≡ pre ++ (name ++ post) → IsName name →
    turn < 4294967296 →
    ((text : List ℕ) (p : Part) → bytes_of text p ≡ name →
    numbered (codes "turn ") turn ++ (what_words text (what p) ++ codes "\n") ≡ line) →
    ((text : List ℕ) (p : Part) → IsNameIn text p → HasNames text (what p)) →
    ((p : Part) → HasNumbers (what p)) → IsLine line
one-name line pre name post turn what parts is few same names numbers before rest =
    let p : Part = part_behind (before ++ pre) name in
    let text : List ℕ = before ++ (line ++ rest) in
    let whole : text ≡ (before ++ pre) ++ (name ++ (post ++ rest)) =
    ap (λ (l : List ℕ). before ++ (l ++ rest)) parts ∙ regroup before pre name post rest in
    let bytes : bytes_of text p ≡ name =
    ap (λ (t : List ℕ). bytes_of t p) whole ∙ part-bytes (before ++ pre) name (post ++ rest) in
    let named : IsNameIn text p =
    subst (λ (t : List ℕ). IsNameIn t p) (sym whole) (part-name (before ++ pre) name (post ++ rest) is) in
    let event : Event = record { turn = turn; what = what p } in
    (event, shown before line rest event (same text p bytes) (names text p named) few (numbers p))

-- ---- lines of nodes

-- a line that begins with the turn and the name of a node
abbrev pub node_line : List ℕ → ℕ → List ℕ → List ℕ
node_line name turn words =
    (numbered (codes "turn ") turn ++ (codes " " ++ name)) ++ (words ++ codes "\n")

node-parts : (t d s name r : List ℕ) → ((t ++ d) ++ (s ++ name)) ++ r ≡ ((t ++ d) ++ s) ++ (name ++ r)
node-parts t d s name r = search (rules, append_assoc)

node-words : (t s name words r : List ℕ) → t ++ (((s ++ name) ++ words) ++ r) ≡ (t ++ (s ++ name)) ++ (words ++ r)
node-words t s name words r = search (rules, append_assoc)

pub of-node :
    (name : List ℕ) (turn : ℕ) (words : List ℕ) (what : Part → What) → IsName name → turn < 4294967296 →
    ((text : List ℕ) (p : Part) → what_words text (what p) ≡ name_word text p ++ words) →
    ((text : List ℕ) (p : Part) → IsNameIn text p → HasNames text (what p)) →
    ((p : Part) → HasNumbers (what p)) → IsLine (node_line name turn words)
of-node name turn words what is few says names numbers =
    one-name (node_line name turn words) (numbered (codes "turn ") turn ++ codes " ") name (words ++ codes "\n") turn what
    (node-parts (codes "turn ") (decimal turn) (codes " ") name (words ++ codes "\n")) is few
    (λ text p bytes.
    ap (λ (l : List ℕ). numbered (codes "turn ") turn ++ (l ++ codes "\n")) (says text p)
    ∙ ap (λ (b : List ℕ). numbered (codes "turn ") turn ++ (((codes " " ++ b) ++ words) ++ codes "\n")) bytes
    ∙ node-words (numbered (codes "turn ") turn) (codes " ") name words (codes "\n"))
    names numbers
