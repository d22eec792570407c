-- What is made of words that are parted: the form's own words, and files that are no options.
use Rattle.std.proofs.Common.{◌≡◌, ◌∙◌, ℕ, zero, suc, ◌+◌, ◌-◌, true, false, List, [], ◌∷◌, ◌++◌, length, take, drop, refl, sym, ap, add-one, arith}
use Rattle.std.specs.Prelude.{filter, min, not, string_bytes, string_cmp, IsPermutation, IsSorted, String}
use Rattle.std.specs.Global.{Global}
use Rattle.std.proofs.lemmas.Bool.{not-true}
use Rattle.std.proofs.lemmas.List.{length-take, take_min, drop_min}
use Rattle.std.proofs.lemmas.List.Elements.{All-drop, All-weaker, filter_passes}
use Rattle.program_edges.specs.Words.{is_option, is_other_word, before_end, behind_end, plain_words, option_words, AreSorted, AreNoOptions}

-- ---- files

-- what is dropped of two lists
dropped : {A : Type 0} (n : ℕ) (xs ys : List A) → drop n (xs ++ ys) ≡ drop n xs ++ drop (n - length xs) ys
dropped zero [] ys = refl
dropped (suc n) [] ys =
    let same : suc n - 0 ≡ suc n = omega arith in
    rw same refl
dropped zero (x ∷ xs) ys =
    let none : 0 - suc (length xs) ≡ 0 = omega arith in
    rw none refl
dropped (suc n) (x ∷ xs) ys = dropped n xs ys ∙ ap (λ (k : ℕ). drop n xs ++ drop k ys) (omega arith)

-- the files are words that are no options, and then some of those behind `--`
pub no_options : (behind : ℕ) (words : List (String Global)) → AreNoOptions words (drop (behind + 1) (plain_words words))
no_options behind [] = record {
  front = [];
  skipped = 0;
  files_are = grind arith;
  no_options = grind arith;
}
no_options behind (command ∷ words) = record {
  front = drop behind (filter is_other_word (before_end words));
  skipped = behind - length (filter is_other_word (before_end words));
  files_are = rw add-one (dropped behind (filter is_other_word (before_end words)) (behind_end words));
  no_options = All-drop (λ (file : String Global). is_option (string_bytes file) ≡ false) behind (filter is_other_word (before_end words))
      (All-weaker (λ (file : String Global). is_other_word file ≡ true) (λ (file : String Global). is_option (string_bytes file) ≡ false)
      (λ file is. not-true (is_option (string_bytes file)) is) (filter is_other_word (before_end words)) (filter_passes is_other_word (before_end words)));
}

-- ---- the whole

-- words that are cut behind so many
pub sorted : (behind plain : ℕ) (words parted others own options files : List (String Global)) →
    parted ≡ plain_words words → others ≡ option_words words → plain ≡ min (behind + 1) (length parted) →
    own ≡ take plain parted ++ options → files ≡ drop plain parted → IsPermutation others options →
    IsSorted string_cmp options → AreSorted behind words own plain files
sorted behind plain words parted others own options files e o p own_are files_are moved alphabet =
    let count : plain ≡ min (behind + 1) (length (plain_words words)) = rw (← e) p in
    record {
      options = options;
      own_are = own_are ∙ rw (e, count) (rw take_min refl);
      plain_is = count ∙ sym (length-take (behind + 1) (plain_words words));
      options_are = rw (← o) moved;
      alphabet = alphabet;
      files_are = files_are ∙ rw (e, count) (drop_min (behind + 1) (plain_words words));
    }
