-- The lines of a made script, one more at a time.
use Rattle.std.proofs.Common.{◌≡◌, ◌∙◌, ℕ, zero, suc, ◌+◌, ◌-◌, ◌<◌, ◌%◌, Bool, true, false, nat_lt, codes, List, [], ◌∷◌, ◌++◌, length, get_or, refl, sym, ap, append_assoc, arith, add-one}
use Rattle.std.proofs.Math.Nat.{add-suc, add-zero, mod-lt}
use Rattle.std.proofs.lemmas.List.{length-append, flat_map_more, get_or_append_left, get_or-append_right}
use Rattle.std.proofs.lemmas.Bool.Decides.{nat_tests}
use Rattle.std.proofs.lemmas.List.Edits.{length-remove}
use Rattle.std.specs.List.{remove}
use Rattle.rand_pcg.specs.Lcg.{Lcg, started, increment_of}
use Rattle.rand_pcg.specs.Pcg.{pcg32, multiplier_64}
use Rattle.script_made.specs.declared.made.End.{End}
use Rattle.script_made.specs.Made.{words_from, word, generator, end, end_at, added_ends, taken, left, free_ends, end_of, plug_line, pull_line, turn_line, for_each, node_lines, plug_lines, again_lines, made_lines, ended, text_of, made_script}
use Rattle.script_made.specs.codings.Plugged.{ends_below, plugged, plugged_again}

-- the text of lines with others behind them
pub text_of-append : (xs ys : List (List ℕ)) → text_of (xs ++ ys) ≡ text_of xs ++ text_of ys
text_of-append [] ys = refl
text_of-append (x ∷ xs) ys =
    ap (λ rest. ended x ++ rest) (text_of-append xs ys) ∙ sym (append_assoc (ended x) (text_of xs) (text_of ys))

-- the line for one number more
pub line_more : (line : ℕ → List ℕ) (k : ℕ) (old before new : List ℕ)
    → before ≡ old ++ text_of (for_each k (λ k. line k ∷ []))
    → new ≡ before ++ ended (line k)
    → new ≡ old ++ text_of (for_each (k + 1) (λ k. line k ∷ []))
line_more line k old before new h e =
    rw add-one (e ∙ (ap (λ t. t ++ ended (line k)) h
    ∙ flat_map_more ended old (for_each k (λ k. line k ∷ [])) (line k)))

-- the list that a word leaves is two longer
length-left : (ends : List End) (w node : ℕ) → 0 < length ends
    → length (left ends w node) ≡ length ends + 1
unfolding left
length-left ends w node some =
    let inside : w % length ends < length ends = mod-lt w some in
    let one : length (remove ends (w % length ends)) + 1 ≡ length ends =
    length-remove ends (w % length ends) inside in
    let two : length (remove ends (w % length ends) ++ added_ends node)
    ≡ length (remove ends (w % length ends)) + 2 =
    length-append (remove ends (w % length ends)) (added_ends node) in
    omega (arith, one, two)

pub length-free : (g : Lcg) (k : ℕ) → length (free_ends g k) ≡ k + 3
length-free g zero = refl
length-free g (suc k) =
    let before : length (free_ends g k) ≡ k + 3 = length-free g k in
    let more : length (free_ends g (suc k)) ≡ length (free_ends g k) + 1 =
    length-left (free_ends g k) (word g k) (suc k) (omega (arith, before)) in
    omega (arith, before, more)

-- one cable more
pub words_more : (g now next : Lcg) (k : ℕ) → now ≡ words_from g k → next ≡ (pcg32 now).1
    → next ≡ words_from g (k + 1)
words_more g now next k w h = h ∙ rw (w, add-one) refl

pub free_more : (g now : Lcg) (k : ℕ) (free next : List End) → now ≡ words_from g k
    → free ≡ free_ends g k → next ≡ left free (pcg32 now).0 (k + 1)
    → next ≡ free_ends g (k + 1)
unfolding word
free_more g now k free next w h e = e ∙ rw (w, h, add-one) refl

pub ends_more : (g now : Lcg) (k : ℕ) (at : End) (free ends next : List End)
    → now ≡ words_from g k → free ≡ free_ends g k → ends ≡ ends_below g k
    → at ≡ taken free (pcg32 now).0 → next ≡ ends ++ at ∷ [] → next ≡ ends_below g (k + 1)
unfolding word end_of
ends_more g now k at free ends next w f h is e = e ∙ rw (h, is, f, w, add-one) refl

-- the lines for one cable more that is pulled and plugged again
pub again_more : (ends : List End) (g now : Lcg) (k node : ℕ) (old before pulled turned new : List ℕ)
    → now ≡ words_from g k → node ≡ k → before ≡ old ++ text_of (plugged_again ends g k)
    → pulled ≡ before ++ ended (pull_line (node + 1))
    → turned ≡ pulled ++ ended (turn_line (pcg32 now).0)
    → new ≡ turned ++ ended (plug_line (end_at ends k) (node + 1))
    → new ≡ old ++ text_of (plugged_again ends g (k + 1))
unfolding word
again_more ends g now k node old before pulled turned new w same h p t n =
    let last : List (List ℕ) =
    pull_line (suc k) ∷ turn_line (pcg32 (words_from g k)).0 ∷ plug_line (end_at ends k) (suc k) ∷ [] in
    let all : text_of (plugged_again ends g (suc k)) ≡ text_of (plugged_again ends g k) ++ text_of last =
    text_of-append (plugged_again ends g k) last in
    search (w, same, add-one, all, h, p, t, n, append_assoc)

-- ---- the ends in a list and by their numbers

-- a list of one item for each number
pub length-each : {A : Type 0} (n : ℕ) (item : ℕ → A) → length (for_each n (λ k. item k ∷ [])) ≡ n
length-each zero item = refl
length-each {A = A} (suc n) item =
    let others : List A = for_each n (λ k. item k ∷ []) in
    let one : length (others ++ item n ∷ []) ≡ length others + 1 = length-append others (item n ∷ []) in
    omega (arith, one, length-each n item)

pub at-each : {A : Type 0} (n k : ℕ) (item : ℕ → A) (d : A) → k < n
    → get_or (for_each n (λ k. item k ∷ [])) k d ≡ item k
at-each zero k item d h = absurd (omega (arith, h))
at-each {A = A} (suc n) k item d h = go (nat_lt k n) refl (at-each n k item d)
  where
    others : List A
    others = for_each n (λ k. item k ∷ [])

    go : (less : Bool) → nat_lt k n ≡ less → (k < n → get_or others k d ≡ item k)
        → get_or (others ++ item n ∷ []) k d ≡ item k
    go true e before =
        let less : k < n = grind (arith, nat_tests) in
        let inside : k < length others = omega (arith, less, length-each n item) in
        get_or_append_left others (item n ∷ []) d k inside ∙ before less
    go false e before =
        let same : k ≡ n = grind (arith, nat_tests) in
        let first : n - n ≡ 0 = omega arith in
        rw same
        (get_or-append_right others (item n ∷ []) n n d (length-each n item) (omega arith)
        ∙ ap (λ i. get_or (item n ∷ []) i d) first)

pub length-ends : (g : Lcg) (k : ℕ) → length (ends_below g k) ≡ k
length-ends g k = length-each k (end_of g)

end_at-ends : (g : Lcg) (c k : ℕ) → k < c → end_at (ends_below g c) k ≡ end_of g k
end_at-ends g c k h = at-each c k (end_of g) (end 0 0) h

words_after : (g : Lcg) (c k : ℕ) → words_from (words_from g c) k ≡ words_from g (c + k)
words_after g c zero = rw add-zero refl
words_after g c (suc k) = ap (λ g. (pcg32 g).1) (words_after g c k) ∙ rw add-suc refl

word_after : (g : Lcg) (c k : ℕ) → word (words_from g c) k ≡ word g (c + k)
unfolding word
word_after g c k = ap (λ g. (pcg32 g).0) (words_after g c k)

same_lines : (n : ℕ) (f g : ℕ → List (List ℕ)) → ((k : ℕ) → k < n → f k ≡ g k)
    → for_each n f ≡ for_each n g
same_lines zero f g h = refl
same_lines (suc n) f g h =
    let last : f n ≡ g n = h n (omega arith) in
    let others : for_each n f ≡ for_each n g = same_lines n f g (λ k less. h k (omega (arith, less))) in
    rw (last, others) refl

plugged-is : (g : Lcg) (c : ℕ) → plugged (ends_below g c) c ≡ plug_lines g c
plugged-is g c =
    same_lines c (λ k. plug_line (end_at (ends_below g c) k) (suc k) ∷ [])
    (λ k. plug_line (end_of g k) (suc k) ∷ [])
    (λ k h. ap (λ at. plug_line at (suc k) ∷ []) (end_at-ends g c k h))

again-is : (g : Lcg) (c : ℕ) → plugged_again (ends_below g c) (words_from g c) c ≡ again_lines g c
again-is g c =
    same_lines c
    (λ k. pull_line (suc k) ∷ turn_line (word (words_from g c) k)
    ∷ plug_line (end_at (ends_below g c) k) (suc k) ∷ [])
    (λ k. pull_line (suc k) ∷ turn_line (word g (c + k)) ∷ plug_line (end_of g k) (suc k) ∷ [])
    (λ k h. ap (λ at. pull_line (suc k) ∷ turn_line (word (words_from g c) k) ∷ plug_line at (suc k) ∷ [])
    (end_at-ends g c k h)
    ∙ ap (λ w. pull_line (suc k) ∷ turn_line w ∷ plug_line (end_of g k) (suc k) ∷ []) (word_after g c k))

-- ---- the whole script

generator-is : (seed : ℕ) → started 64 multiplier_64 seed (increment_of 64 54) ≡ generator seed
unfolding generator
generator-is seed = refl

pub script-parts : (n seed : ℕ) → made_script n seed ≡ text_of (node_lines seed n)
    ++ (text_of (plug_lines (generator seed) (n - 1))
    ++ (codes "settle\n" ++ text_of (again_lines (generator seed) (n - 1))))
unfolding made_lines made_script
script-parts n seed =
    text_of-append (node_lines seed n)
    (plug_lines (generator seed) (n - 1) ++ (codes "settle" ∷ again_lines (generator seed) (n - 1)))
    ∙ ap (λ t. text_of (node_lines seed n) ++ t)
    (text_of-append (plug_lines (generator seed) (n - 1))
    (codes "settle" ∷ again_lines (generator seed) (n - 1)))

pub made-is : (n seed : ℕ) (g later : Lcg) (ends : List End) (start nodes plugs settle text : List ℕ)
    → g ≡ started 64 multiplier_64 seed (increment_of 64 54)
    → ends ≡ ends_below g (n - 1) → later ≡ words_from g (n - 1)
    → start ≡ [] → nodes ≡ start ++ text_of (node_lines seed n)
    → plugs ≡ nodes ++ text_of (plugged ends (length ends))
    → settle ≡ plugs ++ codes "settle\n"
    → text ≡ settle ++ text_of (plugged_again ends later (length ends))
    → text ≡ made_script n seed
made-is n seed g later ends start nodes plugs settle text g-is e l none nodes-are plugs-are settle-is text-is =
    let count : length ends ≡ n - 1 = ap length e ∙ length-ends g (n - 1) in
    let same : g ≡ generator seed = g-is ∙ generator-is seed in
    let first : text_of (plugged ends (length ends)) ≡ text_of (plug_lines g (n - 1)) =
    rw (count, e) (ap text_of (plugged-is g (n - 1))) in
    let again : text_of (plugged_again ends later (length ends)) ≡ text_of (again_lines g (n - 1)) =
    rw (count, e, l) (ap text_of (again-is g (n - 1))) in
    rw (script-parts, ← same, text-is, settle-is, plugs-are, nodes-are, none, first, again)
    (search (append_assoc))
