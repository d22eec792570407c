-- The column of each word of a line.
use Rattle.std.proofs.Common.{◌≡◌, ℕ, zero, suc, ◌+◌, Bool, true, false, Some, List, [], ◌∷◌, ◌++◌, length, slice_get, cond, refl, sym, ◌∙◌, ap, arith}
use Rattle.std.specs.Prelude.{filter, ◌==◌, not}
use Rattle.std.proofs.lemmas.Bool.{eqb-true}
use Rattle.std.specs.List.{slice_split, onto_first}
use Rattle.std.proofs.lemmas.List.Splits.{slice_split-cons_yes, slice_split-cons_no}
use Rattle.std.proofs.lemmas.Option.{get_or_from_slice_get}
use Rattle.line_words.specs.Words.{is_some_text, words_by}
use Rattle.line_words.proofs.Lemmas.{some_text}
use Rattle.script_lines.specs.Words.{is_blank, words_of}
use Rattle.script_words.specs.Column.{begins, columns, ends_blank, ColumnsAreOfWords}

-- ---- the parts of a line, of which the first may go on a word before

abbrev Parts : List ℕ → List (List ℕ)
Parts xs = slice_split is_blank xs

-- a first part, and others
record IsCut (xs : List ℕ) : Type 0 where
  head : List ℕ
  others : List (List ℕ)
  behind : List ℕ
  is : slice_split is_blank xs ≡ head ∷ others
  front : xs ≡ head ++ behind

cut-blank : (x : ℕ) (xs : List ℕ) → is_blank x ≡ true → IsCut (x ∷ xs)
cut-blank x xs e = record {
  head = [];
  others = slice_split is_blank xs;
  behind = x ∷ xs;
  is = slice_split-cons_yes is_blank x xs e;
  front = refl;
}

cut-more : (x : ℕ) (xs : List ℕ) → is_blank x ≡ false → IsCut xs → IsCut (x ∷ xs)
cut-more x xs e c = record {
  head = x ∷ c.head;
  others = c.others;
  behind = c.behind;
  is = slice_split-cons_no is_blank x xs e ∙ ap (λ (ps : List (List ℕ)). onto_first x ps) c.is;
  front = ap (λ (ys : List ℕ). x ∷ ys) c.front;
}

cut-line : (xs : List ℕ) → IsCut xs
cut-line [] = record { head = []; others = []; behind = []; is = refl; front = refl }
cut-line (x ∷ xs) = go (is_blank x) refl (cut-line xs)
  where
    go : (b : Bool) → is_blank x ≡ b → IsCut xs → IsCut (x ∷ xs)
    go true e c = cut-blank x xs e
    go false e c = cut-more x xs e c

abbrev others-of : List (List ℕ) → List (List ℕ)
others-of [] = []
others-of (f ∷ os) = os

-- the words that begin in a line, behind a blank or in a word
abbrev words_from : Bool → List ℕ → List (List ℕ)
words_from true xs = filter is_some_text (slice_split is_blank xs)
words_from false xs = filter is_some_text (others-of (slice_split is_blank xs))

words-blank : (b : Bool) (x : ℕ) (xs : List ℕ) → is_blank x ≡ true →
    words_from b (x ∷ xs) ≡ words_from true xs
words-blank true x xs e = ap (λ (ps : List (List ℕ)). filter is_some_text ps) (slice_split-cons_yes is_blank x xs e)
words-blank false x xs e =
    ap (λ (ps : List (List ℕ)). filter is_some_text (others-of ps)) (slice_split-cons_yes is_blank x xs e)

words-inside : (x : ℕ) (xs : List ℕ) → is_blank x ≡ false →
    words_from false (x ∷ xs) ≡ words_from false xs
words-inside x xs e =
    let c : IsCut xs = cut-line xs in
    ap (λ (ps : List (List ℕ)). filter is_some_text (others-of ps)) (slice_split-cons_no is_blank x xs e ∙ ap (λ (ps : List (List ℕ)). onto_first x ps) c.is)
    ∙ ap (λ (ps : List (List ℕ)). filter is_some_text (others-of ps)) (sym c.is)

words-begin : (x : ℕ) (xs : List ℕ) → is_blank x ≡ false →
    (c : IsCut xs) × (words_from true (x ∷ xs) ≡ (x ∷ c.head) ∷ words_from false xs)
words-begin x xs e =
    let c : IsCut xs = cut-line xs in (
      c,
      ap (λ (ps : List (List ℕ)). filter is_some_text ps) (slice_split-cons_no is_blank x xs e ∙ ap (λ (ps : List (List ℕ)). onto_first x ps) c.is)
          ∙ some_text x c.head c.others
          ∙ ap (λ (ps : List (List ℕ)). (x ∷ c.head) ∷ filter is_some_text (others-of ps)) (sym c.is),
    )

-- ---- their columns

begins-blank : (n : ℕ) (b : Bool) (x : ℕ) (xs : List ℕ) → is_blank x ≡ true →
    begins n b (x ∷ xs) ≡ begins (n + 1) true xs
begins-blank n true x xs e = rw e refl
begins-blank n false x xs e = rw e refl

begins-inside : (n x : ℕ) (xs : List ℕ) → is_blank x ≡ false →
    begins n false (x ∷ xs) ≡ begins (n + 1) false xs
begins-inside n x xs e = rw e refl

begins-word : (n x : ℕ) (xs : List ℕ) → is_blank x ≡ false →
    begins n true (x ∷ xs) ≡ n ∷ begins (n + 1) false xs
begins-word n x xs e = rw e refl

record Placed (b : Bool) (n : ℕ) (xs : List ℕ) (k : ℕ) (word : List ℕ) : Type 0 where
  before : List ℕ
  behind : List ℕ
  is : xs ≡ before ++ (word ++ behind)
  column : slice_get (begins n b xs) k ≡ Some (n + length before)
  many : length (words_from b before) ≡ k
  edge : ends_blank b before ≡ true

further : (b c : Bool) (n x : ℕ) (xs : List ℕ) (k : ℕ) (word : List ℕ) → is_blank x ≡ c →
    begins n b (x ∷ xs) ≡ begins (n + 1) c xs →
    ((ys : List ℕ) → words_from b (x ∷ ys) ≡ words_from c ys) →
    Placed c (n + 1) xs k word → Placed b n (x ∷ xs) k word
further b c n x xs k word e begin words p =
    let at : n + 1 + length p.before ≡ n + length (x ∷ p.before) = omega arith in
    record {
      before = x ∷ p.before;
      behind = p.behind;
      is = ap (λ (ys : List ℕ). x ∷ ys) p.is;
      column = ap (λ (cs : List ℕ). slice_get cs k) begin ∙ p.column ∙ ap (λ (m : ℕ). Some m) at;
      many = ap (λ (ws : List (List ℕ)). length ws) (words p.before) ∙ p.many;
      edge = ap (λ (d : Bool). ends_blank d p.before) e ∙ p.edge;
    }

next-word : (n x : ℕ) (xs : List ℕ) (k : ℕ) (word : List ℕ) → is_blank x ≡ false →
    Placed false (n + 1) xs k word → Placed true n (x ∷ xs) (suc k) word
next-word n x xs k word e p =
    let at : n + 1 + length p.before ≡ n + length (x ∷ p.before) = omega arith in
    record {
      before = x ∷ p.before;
      behind = p.behind;
      is = ap (λ (ys : List ℕ). x ∷ ys) p.is;
      column = ap (λ (cs : List ℕ). slice_get cs (suc k)) (begins-word n x xs e) ∙ p.column ∙ ap (λ (m : ℕ). Some m) at;
      many = ap (λ (ws : List (List ℕ)). length ws) (words-begin x p.before e).1 ∙ omega (arith, p.many);
      edge = ap (λ (d : Bool). ends_blank d p.before) e ∙ p.edge;
    }

some-is : (a b : List ℕ) → Some a ≡ Some b → a ≡ b
some-is a b e = cc

abbrev Next : List ℕ → ℕ → List ℕ → Type 0
Next xs n word = (c : Bool) (j : ℕ) → slice_get (words_from c xs) j ≡ Some word → Placed c (n + 1) xs j word

placed : (xs : List ℕ) (b : Bool) (n k : ℕ) (word : List ℕ) →
    slice_get (words_from b xs) k ≡ Some word → Placed b n xs k word
placed [] true n k word e = absurd cc
placed [] false n k word e = absurd cc
placed (x ∷ xs) b n k word e = go (λ c j h. placed xs c (n + 1) j word h) (is_blank x) refl b k e
  where
    word-at : Next xs n word → (c : Bool) → is_blank x ≡ false → (k : ℕ) → slice_get (words_from c (x ∷ xs)) k ≡ Some word →
        Placed c n (x ∷ xs) k word
    word-at next false o k e =
        further false false n x xs k word o (begins-inside n x xs o) (λ ys. words-inside x ys o)
        (next false k (ap (λ (ws : List (List ℕ)). slice_get ws k) (sym (words-inside x xs o)) ∙ e))
    word-at next true o zero e =
        let w = words-begin x xs o in
        let is : x ∷ w.0.head ≡ word = some-is (x ∷ w.0.head) word (ap (λ (ws : List (List ℕ)). slice_get ws 0) (sym w.1) ∙ e) in
        let z : n ≡ n + 0 = omega arith in
        record {
          before = [];
          behind = w.0.behind;
          is = ap (λ (ys : List ℕ). x ∷ ys) w.0.front ∙ ap (λ (ws : List ℕ). ws ++ w.0.behind) is;
          column = ap (λ (cs : List ℕ). slice_get cs 0) (begins-word n x xs o) ∙ ap (λ (m : ℕ). Some m) z;
          many = refl;
          edge = refl;
        }
    word-at next true o (suc k) e =
        next-word n x xs k word o
        (next false k (ap (λ (ws : List (List ℕ)). slice_get ws (suc k)) (sym (words-begin x xs o).1) ∙ e))

    go : Next xs n word → (blank : Bool) → is_blank x ≡ blank → (c : Bool) (k : ℕ) →
        slice_get (words_from c (x ∷ xs)) k ≡ Some word → Placed c n (x ∷ xs) k word
    go next true o c k e =
        further c true n x xs k word o (begins-blank n c x xs o) (λ ys. words-blank c x ys o)
        (next true k (ap (λ (ws : List (List ℕ)). slice_get ws k) (sym (words-blank c x xs o)) ∙ e))
    go next false o c k e = word-at next c o k e

pub columns_of_words : ColumnsAreOfWords
unfolding words_by
columns_of_words line number word e =
    let p : Placed true 1 line number word = placed line true 1 number word e in
    let z : 1 + length p.before ≡ length p.before + 1 = omega arith in
    record {
      before = p.before;
      behind = p.behind;
      line_is = p.is;
      column_is = get_or_from_slice_get (columns line) number (1 + length p.before) 0 p.column ∙ z;
      words_before = p.many;
      edge = p.edge;
    }
