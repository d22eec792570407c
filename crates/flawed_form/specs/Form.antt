-- The words that ask for a capture with a flaw.
use Rattle.std.specs.Prelude.{◌≡◌, ℕ, ◌≤◌, Some, List, [], ◌∷◌, map, codes, string_bytes, String}
use Rattle.std.specs.Global.{Global}
use Rattle.self_id.specs.declared.standard.Standard.TheVariants.{Ieee1995, Ieee2000}
use Rattle.script_lines.specs.Number.{number_of}
use Rattle.flawed_capture.specs.Flaw.{flaw_word}
use Rattle.flawed_form.specs.declared.form.FlawedForm.{FlawedForm}

-- 1 to 63 nodes and a seed, each a number as scripts have them
pub record AreNumbersOf (form : FlawedForm) (nodes_word seed_word : List ℕ) : Type 0 where
  pub nodes_are : number_of nodes_word ≡ Some form.nodes
  pub some_nodes : 1 ≤ form.nodes
  pub few_nodes : form.nodes ≤ 63
  pub seed_is : number_of seed_word ≡ Some form.seed

-- `KIND N SEED`: the word of a kind, and the numbers
abbrev pub AreWordsOf : FlawedForm → List (List ℕ) → Type 0
AreWordsOf form (kind ∷ nodes ∷ seed ∷ []) =
    (kind ≡ flaw_word form.flaw) × AreNumbersOf form nodes seed
AreWordsOf form _ = ⊥

-- `flawed` before these words, and `--1995` behind them for IEEE Std 1394-1995
unfoldable pub AreAllWordsOf : FlawedForm → List (List ℕ) → Type 0
AreAllWordsOf form (word ∷ kind ∷ nodes ∷ seed ∷ []) =
    (word ≡ codes "flawed") × (form.standard ≡ Ieee2000) × AreWordsOf form (kind ∷ nodes ∷ seed ∷ [])
AreAllWordsOf form (word ∷ kind ∷ nodes ∷ seed ∷ year ∷ []) =
    (word ≡ codes "flawed") × (year ≡ codes "--1995") × (form.standard ≡ Ieee1995)
    × AreWordsOf form (kind ∷ nodes ∷ seed ∷ [])
AreAllWordsOf form _ = ⊥

-- the words after the program's name ask for this
abbrev pub AsksFlawed : List (String Global) → FlawedForm → Type 0
AsksFlawed words form = AreAllWordsOf form (map string_bytes words)
