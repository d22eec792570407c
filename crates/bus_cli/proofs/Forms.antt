-- Words are those of one form at most.
use Rattle.std.proofs.Common.{cond, Option, Some, None, ◌⊎◌, inl, inr, Bool, true, false, ◌≡◌, ◌≤◌, ℕ, List, [], ◌∷◌, refl, sym, ap, subst, ◌∙◌, arith}
use Rattle.std.specs.Prelude.{String, map, string_bytes, codes, nat_lt}
use Rattle.std.proofs.lemmas.Bool.Decides.{nat_tests}
use Rattle.std.proofs.lemmas.Slice.Eq.{bytes_eq-Decides}
use Rattle.std.specs.Str.{bytes_eq}
use Rattle.std.specs.Global.{Global}
use Rattle.about.specs.declared.asked.About.TheVariants.{Help, Version}
use Rattle.script_lines.specs.Number.{number_of}
use Rattle.bus_cli.specs.declared.form.Form.{Form}
use Rattle.bus_cli.specs.declared.form.Form.TheVariants.{Capture, Rom, Run, Advice, Make, OfItself}
use Rattle.bus_cli.specs.declared.form.CaptureForm.TheVariants.{Read, Read95, Maps}
use Rattle.script_made.specs.Asked.{AreMadeWords}
use Rattle.bus_cli.specs.Form.{AreWordsOf, Asks, IsForm}
use Rattle.bus_cli.specs.codings.Reading.{AsksFewNodes}

-- ---- the form of words, found by trying them all

abbrev of_word : List ℕ → Option Form
of_word word =
    cond (bytes_eq word (codes "read")) (Some (Capture Read))
    (cond (bytes_eq word (codes "read95")) (Some (Capture Read95))
    (cond (bytes_eq word (codes "maps")) (Some (Capture Maps))
    (cond (bytes_eq word (codes "rom")) (Some Rom)
    (cond (bytes_eq word (codes "run")) (Some Run)
    (cond (bytes_eq word (codes "advice")) (Some Advice)
    (cond (bytes_eq word (codes "--help")) (Some (OfItself Help))
    (cond (bytes_eq word (codes "-h")) (Some (OfItself Help))
    (cond (bytes_eq word (codes "--version")) (Some (OfItself Version)) None))))))))

of_make : Option ℕ → Option ℕ → Option Form
of_make (Some nodes) (Some seed) = Some (Make nodes seed)
of_make _ _ = None

form_of : List (List ℕ) → Option Form
form_of [] = None
form_of (word ∷ []) = of_word word
form_of (word ∷ next ∷ []) = None
form_of (word ∷ nodes ∷ seed ∷ words) = of_make (number_of nodes) (number_of seed)

from_numbers : (a b : Option ℕ) (nodes seed : ℕ) → a ≡ Some nodes → b ≡ Some seed →
    of_make a b ≡ Some (Make nodes seed)
unfolding of_make
from_numbers a b nodes seed x y = rw (x, y) refl

is_found : (form : Form) (words : List (List ℕ)) → AreWordsOf form words → form_of words ≡ Some form
unfolding form_of
is_found (Capture Read) words e = ap (λ (ws : List (List ℕ)). form_of ws) e
is_found (Capture Read95) words e = ap (λ (ws : List (List ℕ)). form_of ws) e
is_found (Capture Maps) words e = ap (λ (ws : List (List ℕ)). form_of ws) e
is_found Rom words e = ap (λ (ws : List (List ℕ)). form_of ws) e
is_found Run words e = ap (λ (ws : List (List ℕ)). form_of ws) e
is_found Advice words e = ap (λ (ws : List (List ℕ)). form_of ws) e
is_found (OfItself Help) words (inl e) = ap (λ (ws : List (List ℕ)). form_of ws) e
is_found (OfItself Help) words (inr e) = ap (λ (ws : List (List ℕ)). form_of ws) e
is_found (OfItself Version) words e = ap (λ (ws : List (List ℕ)). form_of ws) e
is_found (Make nodes seed) words m =
    ap (λ (ws : List (List ℕ)). form_of ws) m.words_are
    ∙ from_numbers (number_of m.nodes_word) (number_of m.seed_word) nodes seed m.nodes_are m.seed_is

same_form : (a b : Form) (x : Option Form) → x ≡ Some a → x ≡ Some b → a ≡ b
same_form a b x e f = cc

-- no words are those of two forms
pub one_form : (words : List (String Global)) (a b : Form) → Asks words a → Asks words b → a ≡ b
one_form words a b x y =
    same_form a b (form_of (map string_bytes words)) (is_found a (map string_bytes words) x) (is_found b (map string_bytes words) y)

-- ---- the word of each form

abbrev IsWordOf : List ℕ → Form → Type 0
IsWordOf word form = AreWordsOf form (word ∷ [])

-- the first form whose word it is, or one of the rest
tried : (test : Bool) (word : List ℕ) (first form : Form) (rest : Option Form) →
    (test ≡ true → IsWordOf word first) → (rest ≡ Some form → IsWordOf word form) →
    cond test (Some first) rest ≡ Some form → IsWordOf word form
tried true word first form rest is go e = let f : first ≡ form = cc in subst (λ (g : Form). IsWordOf word g) f (is refl)
tried false word first form rest is go e = go e

alone : (word wanted : List ℕ) → bytes_eq word wanted ≡ true → word ∷ [] ≡ wanted ∷ []
alone word wanted e = ap (λ (w : List ℕ). w ∷ []) ((bytes_eq-Decides word wanted).0 e)

is_word_of : (word : List ℕ) (form : Form) → of_word word ≡ Some form → IsWordOf word form
is_word_of word form =
    tried _ word (Capture Read) form _ (alone word (codes "read"))
    (tried _ word (Capture Read95) form _ (alone word (codes "read95"))
    (tried _ word (Capture Maps) form _ (alone word (codes "maps"))
    (tried _ word Rom form _ (alone word (codes "rom"))
    (tried _ word Run form _ (alone word (codes "run"))
    (tried _ word Advice form _ (alone word (codes "advice"))
    (tried _ word (OfItself Help) form _ (λ e. inl (alone word (codes "--help") e))
    (tried _ word (OfItself Help) form _ (λ e. inr (alone word (codes "-h") e))
    (tried _ word (OfItself Version) form _ (alone word (codes "--version")) (λ e. absurd cc)))))))))

-- ---- words are those of a form, or of none

abbrev AreForm : List (List ℕ) → Type 0
AreForm words = (form : Form) × AreWordsOf form words

abbrev AreMake : List (List ℕ) → Type 0
AreMake words = (nodes : ℕ) × (seed : ℕ) × AreMadeWords (codes "make") nodes seed words

not_found : (words : List (List ℕ)) → form_of words ≡ None → AreForm words → ⊥
not_found words none is = let e : None ≡ Some is.0 = sym none ∙ is_found is.0 words is.1 in cc

by_form : (word : List ℕ) (found : Option Form) → of_word word ≡ found →
    AreForm (word ∷ []) ⊎ (AreForm (word ∷ []) → ⊥)
unfolding form_of
by_form word (Some form) e = inl (form, is_word_of word form e)
by_form word None e = inr (not_found (word ∷ []) e)

only_make : (a b c : List ℕ) (words : List (List ℕ)) (form : Form) →
    (AreMake (a ∷ b ∷ c ∷ words) → ⊥) → AreWordsOf form (a ∷ b ∷ c ∷ words) → ⊥
only_make a b c words (Capture Read) none e = cc
only_make a b c words (Capture Read95) none e = cc
only_make a b c words (Capture Maps) none e = cc
only_make a b c words Rom none e = cc
only_make a b c words Run none e = cc
only_make a b c words Advice none e = cc
only_make a b c words (OfItself Help) none (inl e) = cc
only_make a b c words (OfItself Help) none (inr e) = cc
only_make a b c words (OfItself Version) none e = cc
only_make a b c words (Make nodes seed) none m = none (nodes, seed, m)

-- ---- the words of `make`, or none of it

-- the first number is one of 1 to 63
nodes_word : (b : List ℕ) (o : Option ℕ) → number_of b ≡ o →
    ((n : ℕ) × (number_of b ≡ Some n) × (1 ≤ n) × (n ≤ 63)) ⊎ ((n : ℕ) → number_of b ≡ Some n → 1 ≤ n → n ≤ 63 → ⊥)
nodes_word b None e = inr (λ n is least most. no n is)
  where
    no : (n : ℕ) → number_of b ≡ Some n → ⊥
    no n is = cc
nodes_word b (Some n) e = by (nat_lt 0 n) (nat_lt n 64) refl refl
  where
    same : (m : ℕ) → number_of b ≡ Some m → m ≡ n
    same m is = cc

    by : (low high : Bool) → nat_lt 0 n ≡ low → nat_lt n 64 ≡ high → ((k : ℕ) × (number_of b ≡ Some k) × (1 ≤ k) × (k ≤ 63)) ⊎ ((k : ℕ) → number_of b ≡ Some k → 1 ≤ k → k ≤ 63 → ⊥)
    by true true l h = inl (n, e, grind (arith, nat_tests), grind (arith, nat_tests))
    by false high l h = inr (λ m is least most. let s = same m is in grind (arith, nat_tests))
    by true false l h = inr (λ m is least most. let s = same m is in grind (arith, nat_tests))

seed_word : (c : List ℕ) (o : Option ℕ) → number_of c ≡ o →
    ((n : ℕ) × (number_of c ≡ Some n)) ⊎ ((n : ℕ) → number_of c ≡ Some n → ⊥)
seed_word c None e = inr (λ n is. no n is)
  where
    no : (n : ℕ) → number_of c ≡ Some n → ⊥
    no n is = cc
seed_word c (Some n) e = inl (n, e)

-- the parts of the words of `make`
parts_of : (a b c : List ℕ) (words : List (List ℕ)) (m : AreMake (a ∷ b ∷ c ∷ words)) →
    (a ≡ codes "make") × (m.2.nodes_word ≡ b) × (m.2.seed_word ≡ c) × (words ≡ [])
parts_of a b c words m = split a b c words m.2.nodes_word m.2.seed_word m.2.words_are
  where
    split : (a b c : List ℕ) (words : List (List ℕ)) (n s : List ℕ) → a ∷ b ∷ c ∷ words ≡ codes "make" ∷ n ∷ s ∷ [] → (a ≡ codes "make") × (n ≡ b) × (s ≡ c) × (words ≡ [])
    split a b c words n s e = (cc, cc, cc, cc)

three_words : (a b c : List ℕ) → AreMake (a ∷ b ∷ c ∷ []) ⊎ (AreMake (a ∷ b ∷ c ∷ []) → ⊥)
three_words a b c =
    by (bytes_eq a (codes "make")) refl (nodes_word b (number_of b) refl)
    (seed_word c (number_of c) refl)
  where
    by : (t : Bool) → bytes_eq a (codes "make") ≡ t →
        ((n : ℕ) × (number_of b ≡ Some n) × (1 ≤ n) × (n ≤ 63)) ⊎
        ((n : ℕ) → number_of b ≡ Some n → 1 ≤ n → n ≤ 63 → ⊥) →
        ((n : ℕ) × (number_of c ≡ Some n)) ⊎ ((n : ℕ) → number_of c ≡ Some n → ⊥) → AreMake (a ∷ b ∷ c ∷ []) ⊎ (AreMake (a ∷ b ∷ c ∷ []) → ⊥)
    by true e (inl n) (inl s) = inl (
      n.0,
      s.0,
      record {
        nodes_word = b;
        seed_word = c;
        words_are = ap (λ (w : List ℕ). w ∷ b ∷ c ∷ []) ((bytes_eq-Decides a (codes "make")).0 e);
        nodes_are = n.1;
        some_nodes = n.2;
        few_nodes = n.3;
        seed_is = s.1;
      },
    )
    by true e (inl n) (inr none) = inr (λ m. none m.1 (subst (λ (w : List ℕ). number_of w ≡ Some m.1) (parts_of a b c [] m).2 m.2.seed_is))
    by true e (inr none) s = inr (λ m. none m.0 (subst (λ (w : List ℕ). number_of w ≡ Some m.0) (parts_of a b c [] m).1 m.2.nodes_are) m.2.some_nodes m.2.few_nodes)
    by false e n s =
        inr (λ m. apart ((bytes_eq-Decides a (codes "make")).1 (parts_of a b c [] m).0))
      where
        apart : bytes_eq a (codes "make") ≡ true → ⊥
        apart h = cc

make_or_none : (words : List (List ℕ)) → AreMake words ⊎ (AreMake words → ⊥)
make_or_none [] = inr (λ m. let e = m.2.words_are in cc)
make_or_none (a ∷ []) = inr (λ m. let e = m.2.words_are in cc)
make_or_none (a ∷ b ∷ []) = inr (λ m. let e = m.2.words_are in cc)
make_or_none (a ∷ b ∷ c ∷ []) = three_words a b c
make_or_none (a ∷ b ∷ c ∷ d ∷ words) = inr (λ m. let e = m.2.words_are in cc)

are_form : (words : List (List ℕ)) → AreMake words ⊎ (AreMake words → ⊥) →
    AreForm words ⊎ (AreForm words → ⊥)
unfolding form_of
are_form words (inl make) = inl (Make make.0 make.1, make.2)
are_form [] (inr none) = inr (not_found [] refl)
are_form (a ∷ []) (inr none) = by_form a (of_word a) refl
are_form (a ∷ b ∷ []) (inr none) = inr (not_found (a ∷ b ∷ []) refl)
are_form (a ∷ b ∷ c ∷ words) (inr none) = inr (λ is. only_make a b c words is.0 none is.1)

-- words are those of a form, or of none
pub form_or_none : (words : List (String Global)) → IsForm words ⊎ (IsForm words → ⊥)
form_or_none words = are_form (map string_bytes words) (make_or_none (map string_bytes words))

-- with the words of `make` there are 1 to 63 nodes
pub few_nodes : (words : List (String Global)) (form : Form) → Asks words form → AsksFewNodes form
few_nodes words (Capture form) asks = tt
few_nodes words Rom asks = tt
few_nodes words Run asks = tt
few_nodes words Advice asks = tt
few_nodes words (Make nodes seed) asks = (asks.some_nodes, asks.few_nodes)
few_nodes words (OfItself about) asks = tt
