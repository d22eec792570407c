-- Words are those of one form at most.
use Rattle.std.proofs.Common.{◌≡◌, ◌≤◌, ◌⊎◌, inl, inr, ℕ, Bool, true, false, cond, Option, Some, None, List, [], ◌∷◌, refl, ap, subst, ◌∙◌, arith}
use Rattle.std.specs.Prelude.{String, map, string_bytes, codes, nat_lt}
use Rattle.std.specs.Str.{bytes_eq}
use Rattle.std.specs.Global.{Global}
use Rattle.about.specs.declared.asked.About.TheVariants.{Help, Version}
use Rattle.self_id.specs.declared.standard.Standard.{Standard}
use Rattle.reset_list.specs.declared.form.LogForm.{LogForm}
use Rattle.reset_list.specs.declared.form.LogForm.TheVariants.{Text, Short, Json as Lines}
use Rattle.reset_list.specs.Form.{options}
use Rattle.self_id.specs.declared.standard.Standard.TheVariants.{Ieee1995, Ieee2000}
use Rattle.bus_view.specs.declared.form.CaptureView.{CaptureView}
use Rattle.bus_view.specs.declared.form.CaptureView.TheVariants.{Packets, Tree, Dot, Json}
use Rattle.bus_view.specs.declared.form.ExplainForm.TheVariants as explain
use Rattle.bus_view.specs.declared.form.ViewForm.{ViewForm}
use Rattle.bus_view.specs.declared.form.ViewForm.TheVariants.{Capture, Trace, Waves, DotRun, JsonRun, Script, ListOf, Explain, Resets, Nosy, OfItself}
use Rattle.script_lines.specs.Name.{is_name}
use Rattle.script_lines.specs.Number.{number_of}
use Rattle.bus_view.specs.Form.{standard_words, AreWordsOf, Asks, AsksLog, AsksNoInput, IsForm, IsUnread}
use Rattle.bus_view.specs.codings.Reading.{IsHeld}
use Rattle.std.proofs.lemmas.Bool.Decides.{nat_tests}
use Rattle.std.proofs.lemmas.Slice.Eq.{bytes_eq-Decides}

-- ---- the form of words, found by trying them all

-- 1 to 63 nodes, and a seed
abbrev ranged : Bool → Bool → ℕ → ℕ → Option ViewForm
ranged low high nodes seed = cond low (cond high (Some (Script nodes seed)) None) None

of_numbers : Option ℕ → Option ℕ → Option ViewForm
of_numbers (Some nodes) (Some seed) = ranged (nat_lt 0 nodes) (nat_lt nodes 64) nodes seed
of_numbers _ _ = None

abbrev view_word : CaptureView → List ℕ
view_word Packets = codes "packets"
view_word Tree = codes "tree"
view_word Dot = codes "dot"
view_word Json = codes "json"

abbrev view_of : List ℕ → Option CaptureView
view_of word =
    cond (bytes_eq word (codes "packets")) (Some Packets)
    (cond (bytes_eq word (codes "tree")) (Some Tree)
    (cond (bytes_eq word (codes "dot")) (Some Dot)
    (cond (bytes_eq word (codes "json")) (Some Json) None)))

capture_of : Option CaptureView → Standard → Option ViewForm
capture_of None standard = None
capture_of (Some view) standard = Some (Capture view standard)

-- the list of a name
abbrev named : Bool → List ℕ → Option ViewForm
named test name = cond test (Some (ListOf name)) None

-- a log or a dump in a form, or something else
abbrev log_of : List ℕ → LogForm → Option ViewForm → Option ViewForm
log_of word form rest =
    cond (bytes_eq word (codes "resets")) (Some (Resets form))
    (cond (bytes_eq word (codes "nosy")) (Some (Nosy form)) rest)

-- the faults of a script as lines of JSON
abbrev explained_of : List ℕ → Option ViewForm
explained_of word = cond (bytes_eq word (codes "explain")) (Some (Explain explain.Json)) None

form_of : List (List ℕ) → Option ViewForm
form_of [] = None
form_of (word ∷ []) =
    cond (bytes_eq word (codes "trace")) (Some Trace)
    (cond (bytes_eq word (codes "waves")) (Some Waves)
    (cond (bytes_eq word (codes "dot-run")) (Some DotRun)
    (cond (bytes_eq word (codes "json-run")) (Some JsonRun)
    (cond (bytes_eq word (codes "explain")) (Some (Explain explain.Text))
    (cond (bytes_eq word (codes "--help")) (Some (OfItself Help))
    (cond (bytes_eq word (codes "-h")) (Some (OfItself Help))
    (cond (bytes_eq word (codes "--version")) (Some (OfItself Version))
    (log_of word (Text Ieee2000) (capture_of (view_of word) Ieee2000)))))))))
form_of (word ∷ next ∷ []) =
    cond (bytes_eq word (codes "capture")) (named (is_name next) next)
    (cond (bytes_eq next (codes "--1995"))
    (log_of word (Text Ieee1995) (capture_of (view_of word) Ieee1995))
    (cond (bytes_eq next (codes "--json")) (log_of word (Lines Ieee2000) (explained_of word))
    (cond (bytes_eq next (codes "--short")) (log_of word (Short Ieee2000) None) None)))
form_of (word ∷ a ∷ b ∷ []) =
    cond (bytes_eq word (codes "script")) (of_numbers (number_of a) (number_of b))
    (cond (bytes_eq a (codes "--1995"))
    (cond (bytes_eq b (codes "--json")) (log_of word (Lines Ieee1995) None)
    (cond (bytes_eq b (codes "--short")) (log_of word (Short Ieee1995) None) None)) None)
form_of (word ∷ a ∷ b ∷ c ∷ words) = None

in_range : (low high : Bool) (nodes seed : ℕ) → nat_lt 0 nodes ≡ low → nat_lt nodes 64 ≡ high →
    1 ≤ nodes → nodes ≤ 63 → ranged low high nodes seed ≡ Some (Script nodes seed)
in_range true true nodes seed l h some few = refl
in_range false high nodes seed l h some few = absurd (grind (arith, nat_tests))
in_range true false nodes seed l h some few = absurd (grind (arith, nat_tests))

from_numbers : (a b : Option ℕ) (nodes seed : ℕ) → a ≡ Some nodes → b ≡ Some seed →
    1 ≤ nodes → nodes ≤ 63 → of_numbers a b ≡ Some (Script nodes seed)
unfolding of_numbers
from_numbers a b nodes seed x y some few =
    rw (x, y) (in_range (nat_lt 0 nodes) (nat_lt nodes 64) nodes seed refl refl some few)

found_name : (test : Bool) (name : List ℕ) → test ≡ true → named test name ≡ Some (ListOf name)
found_name test name e = rw e refl

is_found : (form : ViewForm) (words : List (List ℕ)) → AreWordsOf form words →
    form_of words ≡ Some form
unfolding form_of capture_of
is_found (Capture Packets Ieee1995) words e = ap (λ (ws : List (List ℕ)). form_of ws) e
is_found (Capture Packets Ieee2000) words e = ap (λ (ws : List (List ℕ)). form_of ws) e
is_found (Capture Tree Ieee1995) words e = ap (λ (ws : List (List ℕ)). form_of ws) e
is_found (Capture Tree Ieee2000) words e = ap (λ (ws : List (List ℕ)). form_of ws) e
is_found (Capture Dot Ieee1995) words e = ap (λ (ws : List (List ℕ)). form_of ws) e
is_found (Capture Dot Ieee2000) words e = ap (λ (ws : List (List ℕ)). form_of ws) e
is_found (Capture Json Ieee1995) words e = ap (λ (ws : List (List ℕ)). form_of ws) e
is_found (Capture Json Ieee2000) words e = ap (λ (ws : List (List ℕ)). form_of ws) e
is_found Trace words e = ap (λ (ws : List (List ℕ)). form_of ws) e
is_found Waves words e = ap (λ (ws : List (List ℕ)). form_of ws) e
is_found DotRun words e = ap (λ (ws : List (List ℕ)). form_of ws) e
is_found JsonRun words e = ap (λ (ws : List (List ℕ)). form_of ws) e
is_found (Explain explain.Text) words e = ap (λ (ws : List (List ℕ)). form_of ws) e
is_found (Explain explain.Json) words e = ap (λ (ws : List (List ℕ)). form_of ws) e
is_found (Resets (Text Ieee1995)) words e = ap (λ (ws : List (List ℕ)). form_of ws) e
is_found (Resets (Text Ieee2000)) words e = ap (λ (ws : List (List ℕ)). form_of ws) e
is_found (Resets (Short Ieee1995)) words e = ap (λ (ws : List (List ℕ)). form_of ws) e
is_found (Resets (Short Ieee2000)) words e = ap (λ (ws : List (List ℕ)). form_of ws) e
is_found (Resets (Lines Ieee1995)) words e = ap (λ (ws : List (List ℕ)). form_of ws) e
is_found (Resets (Lines Ieee2000)) words e = ap (λ (ws : List (List ℕ)). form_of ws) e
is_found (Nosy (Text Ieee1995)) words e = ap (λ (ws : List (List ℕ)). form_of ws) e
is_found (Nosy (Text Ieee2000)) words e = ap (λ (ws : List (List ℕ)). form_of ws) e
is_found (Nosy (Short Ieee1995)) words e = ap (λ (ws : List (List ℕ)). form_of ws) e
is_found (Nosy (Short Ieee2000)) words e = ap (λ (ws : List (List ℕ)). form_of ws) e
is_found (Nosy (Lines Ieee1995)) words e = ap (λ (ws : List (List ℕ)). form_of ws) e
is_found (Nosy (Lines Ieee2000)) words e = ap (λ (ws : List (List ℕ)). form_of ws) e
is_found (OfItself Help) words (inl e) = ap (λ (ws : List (List ℕ)). form_of ws) e
is_found (OfItself Help) words (inr e) = ap (λ (ws : List (List ℕ)). form_of ws) e
is_found (OfItself Version) words e = ap (λ (ws : List (List ℕ)). form_of ws) e
is_found (Script nodes seed) words m =
    ap (λ (ws : List (List ℕ)). form_of ws) m.words_are
    ∙ from_numbers (number_of m.nodes_word) (number_of m.seed_word) nodes seed m.nodes_are m.seed_is m.some_nodes m.few_nodes
is_found (ListOf name) words m = ap (λ (ws : List (List ℕ)). form_of ws) m.0 ∙ found_name (is_name name) name m.1

same_form : (a b : ViewForm) (x : Option ViewForm) → x ≡ Some a → x ≡ Some b → a ≡ b
same_form a b x e f = cc

pub one_form : (words : List (String Global)) (a b : ViewForm) → Asks words a → Asks words b → a ≡ b
one_form words a b x y =
    same_form a b (form_of (map string_bytes words)) (is_found a (map string_bytes words) x) (is_found b (map string_bytes words) y)

-- ---- words with a form are those of the form

of_view : (view : CaptureView) (standard : Standard) (words : List (List ℕ)) →
    words ≡ view_word view ∷ standard_words standard → AreWordsOf (Capture view standard) words
of_view Packets standard words e = e
of_view Tree standard words e = e
of_view Dot standard words e = e
of_view Json standard words e = e

-- the first view whose word it is, or one of the rest
tried : (test : Bool) (word : List ℕ) (first view : CaptureView) (rest : Option CaptureView) →
    (test ≡ true → word ≡ view_word first) → (rest ≡ Some view → word ≡ view_word view) →
    cond test (Some first) rest ≡ Some view → word ≡ view_word view
tried true word first view rest is go e =
    let f : first ≡ view = cc in subst (λ (v : CaptureView). word ≡ view_word v) f (is refl)
tried false word first view rest is go e = go e

view_is : (word : List ℕ) (view : CaptureView) → view_of word ≡ Some view → word ≡ view_word view
view_is word view e =
    tried _ word Packets view _ (bytes_eq-Decides word (codes "packets")).0
    (tried _ word Tree view _ (bytes_eq-Decides word (codes "tree")).0
    (tried _ word Dot view _ (bytes_eq-Decides word (codes "dot")).0
    (tried _ word Json view None (bytes_eq-Decides word (codes "json")).0 (λ none. absurd cc)))) e

of_capture : (found : Option CaptureView) (standard : Standard) (word : List ℕ) (form : ViewForm) →
    ((view : CaptureView) → found ≡ Some view → word ≡ view_word view) →
    capture_of found standard ≡ Some form → AreWordsOf form (word ∷ standard_words standard)
unfolding capture_of
of_capture None standard word form is e = absurd cc
of_capture (Some view) standard word form is e =
    let f : Capture view standard ≡ form = cc in
    subst (λ (g : ViewForm). AreWordsOf g (word ∷ standard_words standard)) f
    (of_view view standard _ (ap (λ (w : List ℕ). w ∷ standard_words standard) (is view refl)))

-- the first form, whose words they are where a test holds, or one of the rest
or_rest : (test : Bool) (words : List (List ℕ)) (first form : ViewForm) (rest : Option ViewForm) →
    (test ≡ true → AreWordsOf first words) → (rest ≡ Some form → AreWordsOf form words) →
    cond test (Some first) rest ≡ Some form → AreWordsOf form words
or_rest true words first form rest is go e =
    let f : first ≡ form = cc in subst (λ (g : ViewForm). AreWordsOf g words) f (is refl)
or_rest false words first form rest is go e = go e

with_standard : (standard : Standard) (word wanted : List ℕ) → bytes_eq word wanted ≡ true →
    word ∷ standard_words standard ≡ wanted ∷ standard_words standard
with_standard standard word wanted e =
    ap (λ (w : List ℕ). w ∷ standard_words standard) ((bytes_eq-Decides word wanted).0 e)

log_words : (word : List ℕ) (log : LogForm) (form : ViewForm) (rest : Option ViewForm) →
    (rest ≡ Some form → AreWordsOf form (word ∷ options log)) →
    log_of word log rest ≡ Some form → AreWordsOf form (word ∷ options log)
log_words word log form rest go =
    or_rest (bytes_eq word (codes "resets")) (word ∷ options log) (Resets log) form _
    (λ e. ap (λ (w : List ℕ). w ∷ options log) ((bytes_eq-Decides word (codes "resets")).0 e))
    (or_rest (bytes_eq word (codes "nosy")) (word ∷ options log) (Nosy log) form rest
    (λ e. ap (λ (w : List ℕ). w ∷ options log) ((bytes_eq-Decides word (codes "nosy")).0 e)) go)

no_form : (form : ViewForm) (P : Type 0) → None ≡ Some form → P
no_form form P e = absurd cc

explained_words : (word : List ℕ) (form : ViewForm) → explained_of word ≡ Some form →
    AreWordsOf form (word ∷ codes "--json" ∷ [])
explained_words word form =
    or_rest (bytes_eq word (codes "explain")) (word ∷ codes "--json" ∷ []) (Explain explain.Json) form None
    (λ e. ap (λ (w : List ℕ). w ∷ codes "--json" ∷ []) ((bytes_eq-Decides word (codes "explain")).0 e)) (no_form form _)

one_word : (word : List ℕ) (form : ViewForm) →
    cond (bytes_eq word (codes "trace")) (Some Trace)
    (cond (bytes_eq word (codes "waves")) (Some Waves)
    (cond (bytes_eq word (codes "dot-run")) (Some DotRun)
    (cond (bytes_eq word (codes "json-run")) (Some JsonRun)
    (cond (bytes_eq word (codes "explain")) (Some (Explain explain.Text))
    (cond (bytes_eq word (codes "--help")) (Some (OfItself Help))
    (cond (bytes_eq word (codes "-h")) (Some (OfItself Help))
    (cond (bytes_eq word (codes "--version")) (Some (OfItself Version))
    (log_of word (Text Ieee2000) (capture_of (view_of word) Ieee2000))))))))) ≡ Some form →
    AreWordsOf form (word ∷ [])
one_word word form =
    or_rest _ (word ∷ []) Trace form _ (with_standard Ieee2000 word (codes "trace"))
    (or_rest _ (word ∷ []) Waves form _ (with_standard Ieee2000 word (codes "waves"))
    (or_rest _ (word ∷ []) DotRun form _ (with_standard Ieee2000 word (codes "dot-run"))
    (or_rest _ (word ∷ []) JsonRun form _ (with_standard Ieee2000 word (codes "json-run"))
    (or_rest _ (word ∷ []) (Explain explain.Text) form _ (with_standard Ieee2000 word (codes "explain"))
    (or_rest _ (word ∷ []) (OfItself Help) form _ (λ e. inl (with_standard Ieee2000 word (codes "--help") e))
    (or_rest _ (word ∷ []) (OfItself Help) form _ (λ e. inr (with_standard Ieee2000 word (codes "-h") e))
    (or_rest _ (word ∷ []) (OfItself Version) form _ (with_standard Ieee2000 word (codes "--version"))
    (log_words word (Text Ieee2000) form _ (of_capture (view_of word) Ieee2000 word form (view_is word))))))))))

by_name : (test : Bool) (word next : List ℕ) (form : ViewForm) → is_name next ≡ test →
    word ≡ codes "capture" → named test next ≡ Some form → AreWordsOf form (word ∷ next ∷ [])
by_name true word next form is w e =
    let f : ListOf next ≡ form = cc in
    subst (λ (g : ViewForm). AreWordsOf g (word ∷ next ∷ [])) f (ap (λ (v : List ℕ). v ∷ next ∷ []) w, is)
by_name false word next form is w e = absurd cc

two_words : (first test lines short : Bool) (word next : List ℕ) (form : ViewForm) → (first ≡ true → word ≡ codes "capture") →
    (test ≡ true → next ≡ codes "--1995") → (lines ≡ true → next ≡ codes "--json") → (short ≡ true → next ≡ codes "--short") →
    cond first (named (is_name next) next) (cond test (log_of word (Text Ieee1995) (capture_of (view_of word) Ieee1995)) (cond lines (log_of word (Lines Ieee2000) (explained_of word)) (cond short (log_of word (Short Ieee2000) None) None))) ≡ Some form →
    AreWordsOf form (word ∷ next ∷ [])
two_words true test lines short word next form w is js sh e = by_name (is_name next) word next form refl (w refl) e
two_words false true lines short word next form w is js sh e =
    rw (is refl) (log_words word (Text Ieee1995) form _ (of_capture (view_of word) Ieee1995 word form (view_is word)) e)
two_words false false true short word next form w is js sh e =
    rw (js refl) (log_words word (Lines Ieee2000) form (explained_of word) (explained_words word form) e)
two_words false false false true word next form w is js sh e =
    rw (sh refl) (log_words word (Short Ieee2000) form None (no_form form _) e)
two_words false false false false word next form w is js sh e = absurd cc

-- 1 to 63 nodes and a seed that are found stand there
by_range : (low high : Bool) (word a b : List ℕ) (nodes seed : ℕ) (form : ViewForm) →
    nat_lt 0 nodes ≡ low → nat_lt nodes 64 ≡ high → word ≡ codes "script" → number_of a ≡ Some nodes → number_of b ≡ Some seed →
    ranged low high nodes seed ≡ Some form → AreWordsOf form (word ∷ a ∷ b ∷ [])
by_range true true word a b nodes seed form l h w x y e =
    let f : Script nodes seed ≡ form = cc in
    subst (λ (g : ViewForm). AreWordsOf g (word ∷ a ∷ b ∷ [])) f record {
      nodes_word = a;
      seed_word = b;
      words_are = ap (λ (v : List ℕ). v ∷ a ∷ b ∷ []) w;
      nodes_are = x;
      some_nodes = grind (arith, nat_tests);
      few_nodes = grind (arith, nat_tests);
      seed_is = y;
    }
by_range false high word a b nodes seed form l h w x y e = absurd cc
by_range true false word a b nodes seed form l h w x y e = absurd cc

by_numbers : (n s : Option ℕ) (word a b : List ℕ) (form : ViewForm) → word ≡ codes "script" →
    number_of a ≡ n → number_of b ≡ s → of_numbers n s ≡ Some form → AreWordsOf form (word ∷ a ∷ b ∷ [])
unfolding of_numbers
by_numbers None s word a b form w x y e = absurd cc
by_numbers (Some nodes) None word a b form w x y e = absurd cc
by_numbers (Some nodes) (Some seed) word a b form w x y e =
    by_range (nat_lt 0 nodes) (nat_lt nodes 64) word a b nodes seed form refl refl w x y e

three_words : (test year lines short : Bool) (word a b : List ℕ) (form : ViewForm) → (test ≡ true → word ≡ codes "script") →
    (year ≡ true → a ≡ codes "--1995") → (lines ≡ true → b ≡ codes "--json") → (short ≡ true → b ≡ codes "--short") →
    cond test (of_numbers (number_of a) (number_of b)) (cond year (cond lines (log_of word (Lines Ieee1995) None) (cond short (log_of word (Short Ieee1995) None) None)) None) ≡ Some form →
    AreWordsOf form (word ∷ a ∷ b ∷ [])
three_words true year lines short word a b form is old js sh e = by_numbers (number_of a) (number_of b) word a b form (is refl) refl refl e
three_words false true true short word a b form is old js sh e =
    rw (old refl, js refl) (log_words word (Lines Ieee1995) form None (no_form form _) e)
three_words false true false true word a b form is old js sh e =
    rw (old refl, sh refl) (log_words word (Short Ieee1995) form None (no_form form _) e)
three_words false true false false word a b form is old js sh e = absurd cc
three_words false false lines short word a b form is old js sh e = absurd cc

are_words : (words : List (List ℕ)) (form : ViewForm) → form_of words ≡ Some form →
    AreWordsOf form words
unfolding form_of
are_words [] form e = absurd cc
are_words (word ∷ []) form e =
    one_word word form e
are_words (word ∷ next ∷ []) form e =
    two_words _ _ _ _ word next form (bytes_eq-Decides word (codes "capture")).0
    (bytes_eq-Decides next (codes "--1995")).0 (bytes_eq-Decides next (codes "--json")).0
    (bytes_eq-Decides next (codes "--short")).0 e
are_words (word ∷ a ∷ b ∷ []) form e =
    three_words _ _ _ _ word a b form (bytes_eq-Decides word (codes "script")).0
    (bytes_eq-Decides a (codes "--1995")).0 (bytes_eq-Decides b (codes "--json")).0
    (bytes_eq-Decides b (codes "--short")).0 e
are_words (word ∷ a ∷ b ∷ c ∷ words) form e = absurd cc

pub form_or_none : (words : List (String Global)) → IsForm words ⊎ (IsForm words → ⊥)
form_or_none words = go (form_of (map string_bytes words)) refl
  where
    go : (found : Option ViewForm) → form_of (map string_bytes words) ≡ found → IsForm words ⊎ (IsForm words → ⊥)
    go (Some form) e = inl (form, are_words (map string_bytes words) form e)
    go None e = inr (λ is. let f = is_found is.0 (map string_bytes words) is.1 in cc)

-- ---- what is read

-- a form whose input is shown as it comes is none of the others
pub log_apart : (words : List (String Global)) (form : ViewForm) → IsHeld form → Asks words form →
    AsksLog words → ⊥
log_apart words form held asks (shown, inl log) =
    let e : Resets shown ≡ form = one_form words (Resets shown) form log asks in
    subst (λ (f : ViewForm). IsHeld f → ⊥) e (λ none. none) held
log_apart words form held asks (shown, inr dump) =
    let e : Nosy shown ≡ form = one_form words (Nosy shown) form dump asks in
    subst (λ (f : ViewForm). IsHeld f → ⊥) e (λ none. none) held

-- nor is one that reads nothing
pub input_apart : (words : List (String Global)) → AsksNoInput words → AsksLog words → ⊥
input_apart words (form, asks, unread) (shown, inl log) =
    subst IsUnread (one_form words form (Resets shown) asks log) unread
input_apart words (form, asks, unread) (shown, inr dump) =
    subst IsUnread (one_form words form (Nosy shown) asks dump) unread

-- the forms of a log's words are one, and so are those of a dump's
pub one_resets : (words : List (String Global)) (a b : LogForm) → Asks words (Resets a) → Asks words (Resets b) → a ≡ b
one_resets words a b x y = let e : Resets a ≡ Resets b = one_form words (Resets a) (Resets b) x y in cc

pub one_nosy : (words : List (String Global)) (a b : LogForm) → Asks words (Nosy a) → Asks words (Nosy b) → a ≡ b
one_nosy words a b x y = let e : Nosy a ≡ Nosy b = one_form words (Nosy a) (Nosy b) x y in cc

-- and they are apart
pub no_dump : (words : List (String Global)) (a b : LogForm) → Asks words (Resets a) → Asks words (Nosy b) → ⊥
no_dump words a b x y = let e : Resets a ≡ Nosy b = one_form words (Resets a) (Nosy b) x y in cc

-- with words whose input isn't shown as it comes a text is made, and with those of `script` there are 1 to
-- 63 nodes
pub is_held : (words : List (String Global)) (form : ViewForm) → Asks words form → (AsksLog words → ⊥) → IsHeld form
is_held words (Capture view standard) asks no_log = tt
is_held words Trace asks no_log = tt
is_held words Waves asks no_log = tt
is_held words DotRun asks no_log = tt
is_held words JsonRun asks no_log = tt
is_held words (Explain form) asks no_log = tt
is_held words (Script nodes seed) asks no_log = (asks.some_nodes, asks.few_nodes)
is_held words (ListOf name) asks no_log = tt
is_held words (Resets form) asks no_log = absurd (no_log (form, inl asks))
is_held words (Nosy form) asks no_log = absurd (no_log (form, inr asks))
is_held words (OfItself about) asks no_log = tt
