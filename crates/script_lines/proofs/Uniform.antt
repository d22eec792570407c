-- A line of words has one form at most.
use Rattle.std.proofs.Common.{◌≡◌, ◌∙◌, ℕ, ◌≤◌, ◌-◌, List, [], ◌∷◌, Bool, true, false, ◌&&◌, length, take, drop, get_or, take_all, sub-one, codes, refl, sym, ap, subst, arith}
use Rattle.std.specs.Prelude.{cond, not, Result, Err}
use Rattle.std.specs.Str.{bytes_eq}
use Rattle.std.proofs.lemmas.Slice.Eq.{bytes_eq-Decides}
use Rattle.std.proofs.lemmas.Bool.{and_parts, false_from_ne_true}
use Rattle.port_state.specs.declared.ranges.TimeRanges.{TimeRanges}
use Rattle.script_lines.specs.declared.command.Command.{Command}
use Rattle.script_lines.specs.declared.kind.Kind.{Kind}
use Rattle.script_lines.specs.declared.kind.Kind.TheVariants.{Word}
use Rattle.script_lines.specs.Shape.{Shape, the, a_name, a_number, a_given, any_number, fit, first_wrong}
use Rattle.script_lines.specs.Form.{Form, plug, pull, reset, turn, hold, settle, config_root, config_gap, config_both, csr_read, csr_write, csr_lock, look, allocate, release, manager, plan, maps, delay, times_2000, times_1995, clock_paced, clock_first, forms, shapes, command_of}
use Rattle.script_lines.specs.Node.{are_pairs, has_node_form, wrong_node, node_command}
use Rattle.script_lines.specs.Line.{LineForm, node, other, has_form, wrong_word, meaning, HasNoForm}
use Rattle.script_lines.specs.codings.Reading.{unless, read_by, read_node, read_words}

-- a slice is its first word and the others
pub first_and_others : (words : List (List ℕ)) (first : List ℕ) → 1 ≤ length words
    → first ≡ get_or words 0 first → words ≡ first ∷ take (length words - 1) (drop 1 words)
first_and_others [] first h e = absurd (omega arith)
first_and_others (word ∷ words) first h e =
    let others : take (length words) words ≡ words = take_all (length words) words (omega arith) in
    rw (sub-one, others, e) refl

not_node : (word : List ℕ) (words : List (List ℕ)) → bytes_eq word (codes "node") ≡ false
    → has_node_form (word ∷ words) ≡ false
not_node word words h =
    ap (λ b. (b && fit (a_name ∷ a_number 1 16 ∷ []) (take 2 words)) && are_pairs (drop 2 words)) h

-- words that declare a node
pub read_declared : (times : TimeRanges) (words : List (List ℕ)) (first : List ℕ) (others : List (List ℕ))
    → words ≡ first ∷ others → bytes_eq first (codes "node") ≡ true
    → read_node times (codes "node" ∷ others) ≡ read_words times words
read_declared times words first others e h =
    let same : first ≡ codes "node" = (bytes_eq-Decides first (codes "node")).0 h in
    let all : words ≡ codes "node" ∷ others = e ∙ ap (λ w. w ∷ others) same in
    ap (read_words times) (sym all)

-- words that don't declare a node
pub read_others : (times : TimeRanges) (words : List (List ℕ)) (first : List ℕ) (others : List (List ℕ))
    → words ≡ first ∷ others → bytes_eq first (codes "node") ≡ false
    → read_by forms (first ∷ others) ≡ read_words times words
read_others times words first others e h =
    rw (e, not_node first others h) refl

false_is_not_true : false ≡ true → ⊥
false_is_not_true h = cc

-- the first word of a form
abbrev verb : Form → List ℕ
verb plug = codes "plug"
verb pull = codes "pull"
verb reset = codes "reset"
verb turn = codes "turn"
verb hold = codes "hold"
verb settle = codes "settle"
verb config_root = codes "config"
verb config_gap = codes "config"
verb config_both = codes "config"
verb csr_read = codes "csr"
verb csr_write = codes "csr"
verb csr_lock = codes "csr"
verb look = codes "look"
verb allocate = codes "allocate"
verb release = codes "release"
verb manager = codes "manager"
verb plan = codes "plan"
verb maps = codes "maps"
verb delay = codes "delay"
verb times_2000 = codes "times"
verb times_1995 = codes "times"
verb clock_paced = codes "clock"
verb clock_first = codes "clock"

-- the forms that begin with it
abbrev group : Form → List Form
group config_root = config_root ∷ config_gap ∷ config_both ∷ []
group config_gap = config_root ∷ config_gap ∷ config_both ∷ []
group config_both = config_root ∷ config_gap ∷ config_both ∷ []
group csr_read = csr_read ∷ csr_write ∷ csr_lock ∷ []
group csr_write = csr_read ∷ csr_write ∷ csr_lock ∷ []
group csr_lock = csr_read ∷ csr_write ∷ csr_lock ∷ []
group plug = plug ∷ []
group pull = pull ∷ []
group reset = reset ∷ []
group turn = turn ∷ []
group hold = hold ∷ []
group settle = settle ∷ []
group look = look ∷ []
group allocate = allocate ∷ []
group release = release ∷ []
group manager = manager ∷ []
group plan = plan ∷ []
group maps = maps ∷ []
group delay = delay ∷ []
group times_2000 = times_2000 ∷ times_1995 ∷ []
group times_1995 = times_2000 ∷ times_1995 ∷ []
group clock_paced = clock_paced ∷ clock_first ∷ []
group clock_first = clock_paced ∷ clock_first ∷ []

grouped : (form : Form) (args : List (List ℕ))
    → read_by forms (verb form ∷ args) ≡ read_by (group form) (verb form ∷ args)
grouped plug args = refl
grouped pull args = refl
grouped reset args = refl
grouped turn args = refl
grouped hold args = refl
grouped settle args = refl
grouped config_root args = refl
grouped config_gap args = refl
grouped config_both args = refl
grouped csr_read args = refl
grouped csr_write args = refl
grouped csr_lock args = refl
grouped look args = refl
grouped allocate args = refl
grouped release args = refl
grouped manager args = refl
grouped plan args = refl
grouped maps args = refl
grouped delay args = refl
grouped times_2000 args = refl
grouped times_1995 args = refl
grouped clock_paced args = refl
grouped clock_first args = refl

not_node_verb : (form : Form) → bytes_eq (verb form) (codes "node") ≡ false
not_node_verb plug = refl
not_node_verb pull = refl
not_node_verb reset = refl
not_node_verb turn = refl
not_node_verb hold = refl
not_node_verb settle = refl
not_node_verb config_root = refl
not_node_verb config_gap = refl
not_node_verb config_both = refl
not_node_verb csr_read = refl
not_node_verb csr_write = refl
not_node_verb csr_lock = refl
not_node_verb look = refl
not_node_verb allocate = refl
not_node_verb release = refl
not_node_verb manager = refl
not_node_verb plan = refl
not_node_verb maps = refl
not_node_verb delay = refl
not_node_verb times_2000 = refl
not_node_verb times_1995 = refl
not_node_verb clock_paced = refl
not_node_verb clock_first = refl

begins_so : (word text : List ℕ) (rest : Bool) → (bytes_eq word text && rest) ≡ true → word ≡ text
begins_so word text rest h = (bytes_eq-Decides word text).0 (and_parts (bytes_eq word text) rest h).0

begins : (form : Form) (word : List ℕ) (args : List (List ℕ))
    → fit (shapes form) (word ∷ args) ≡ true → word ≡ verb form
begins plug word args h = begins_so word _ _ h
begins pull word args h = begins_so word _ _ h
begins reset word args h = begins_so word _ _ h
begins turn word args h = begins_so word _ _ h
begins hold word args h = begins_so word _ _ h
begins settle word args h = begins_so word _ _ h
begins config_root word args h = begins_so word _ _ h
begins config_gap word args h = begins_so word _ _ h
begins config_both word args h = begins_so word _ _ h
begins csr_read word args h = begins_so word _ _ h
begins csr_write word args h = begins_so word _ _ h
begins csr_lock word args h = begins_so word _ _ h
begins look word args h = begins_so word _ _ h
begins allocate word args h = begins_so word _ _ h
begins release word args h = begins_so word _ _ h
begins manager word args h = begins_so word _ _ h
begins plan word args h = begins_so word _ _ h
begins maps word args h = begins_so word _ _ h
begins delay word args h = begins_so word _ _ h
begins times_2000 word args h = begins_so word _ _ h
begins times_1995 word args h = begins_so word _ _ h
begins clock_paced word args h = begins_so word _ _ h
begins clock_first word args h = begins_so word _ _ h

-- what words say by a form that they have
abbrev by_form : Form → List (List ℕ) → Result Command Kind
by_form form words = unless (first_wrong (shapes form) words) (command_of form words)

taken : (form : Form) (forms : List Form) (words : List (List ℕ))
    → fit (shapes form) words ≡ true → read_by (form ∷ forms) words ≡ by_form form words
taken form forms words h = ap (λ b. cond b (by_form form words) (read_by forms words)) h

passed : (form : Form) (forms : List Form) (words : List (List ℕ))
    → fit (shapes form) words ≡ false → read_by (form ∷ forms) words ≡ read_by forms words
passed form forms words h = ap (λ b. cond b (by_form form words) (read_by forms words)) h

-- two forms with different words at the first place
apart : (text word : List ℕ) → bytes_eq text word ≡ false → (here there : List Shape)
    (args : List (List ℕ)) → fit (the text ∷ here) args ≡ true → fit (the word ∷ there) args ≡ false
apart text word e here there [] h = absurd (cc)
apart text word e here there (found ∷ rest) h =
    let same : found ≡ text = begins_so found text (fit here rest) h in
    let Apart : List ℕ → Type 0 = λ w. (bytes_eq w word && fit there rest) ≡ false in
    subst Apart (sym same) (ap (λ b. b && fit there rest) e)

-- and behind a name
apart_behind : (text word : List ℕ) → bytes_eq text word ≡ false → (here there : List Shape)
    (args : List (List ℕ)) → fit (a_name ∷ the text ∷ here) args ≡ true
    → fit (a_name ∷ the word ∷ there) args ≡ false
apart_behind text word e here there [] h = absurd (cc)
apart_behind text word e here there (name ∷ rest) h = apart text word e here there rest h

not_both : (a b f : Bool) → (a && (not b && f)) ≡ true → (a && (b && f)) ≡ false
not_both true true f h = absurd (cc)
not_both true false f h = refl
not_both false b f h = refl

not_so : (b f g : Bool) → (not b && f) ≡ true → (b && g) ≡ false
not_so true f g h = absurd (cc)
not_so false f g h = refl

gap_no_root : (args : List (List ℕ)) →
    fit (a_name ∷ the (codes "-") ∷ a_given 0 63 ∷ []) args ≡ true
    → fit (a_name ∷ a_given 0 62 ∷ the (codes "-") ∷ []) args ≡ false
gap_no_root [] h = absurd (cc)
gap_no_root (name ∷ []) h = absurd (cc)
gap_no_root (name ∷ root ∷ rest) h =
    ap (λ b. not b && fit (the (codes "-") ∷ []) rest)
    (and_parts (bytes_eq root (codes "-")) (fit (a_given 0 63 ∷ []) rest) h).0

both_no_root : (args : List (List ℕ)) → fit (a_name ∷ a_given 0 62 ∷ a_given 0 63 ∷ []) args ≡ true
    → fit (a_name ∷ a_given 0 62 ∷ the (codes "-") ∷ []) args ≡ false
both_no_root [] h = absurd (cc)
both_no_root (name ∷ []) h = absurd (cc)
both_no_root (name ∷ root ∷ []) h =
    absurd (false_is_not_true (and_parts (not (bytes_eq root (codes "-"))) false h).1)
both_no_root (name ∷ root ∷ gap ∷ rest) h =
    not_both (not (bytes_eq root (codes "-"))) (bytes_eq gap (codes "-")) (fit [] rest) h

both_no_gap : (args : List (List ℕ)) → fit (a_name ∷ a_given 0 62 ∷ a_given 0 63 ∷ []) args ≡ true
    → fit (a_name ∷ the (codes "-") ∷ a_given 0 63 ∷ []) args ≡ false
both_no_gap [] h = absurd (cc)
both_no_gap (name ∷ []) h = absurd (cc)
both_no_gap (name ∷ root ∷ rest) h =
    not_so (bytes_eq root (codes "-")) (fit (a_given 0 63 ∷ []) rest) (fit (a_given 0 63 ∷ []) rest) h

first_no_end : (args : List (List ℕ)) →
    fit (a_name ∷ a_number 1 1000000 ∷ a_number 1 2000000 ∷ []) args ≡ true
    → fit (a_name ∷ a_number 1 1000000 ∷ []) args ≡ false
first_no_end [] h = absurd (cc)
first_no_end (name ∷ []) h = absurd (cc)
first_no_end (name ∷ ppm ∷ []) h = absurd (cc)
first_no_end (name ∷ ppm ∷ first ∷ rest) h = refl

in_group : (form : Form) (args : List (List ℕ)) → fit (shapes form) (verb form ∷ args) ≡ true
    → read_by (group form) (verb form ∷ args) ≡ by_form form (verb form ∷ args)
in_group config_root args h =
    taken config_root (config_gap ∷ config_both ∷ []) (codes "config" ∷ args) h
in_group config_gap args h =
    passed config_root (config_gap ∷ config_both ∷ []) (codes "config" ∷ args) (gap_no_root args h)
    ∙ taken config_gap (config_both ∷ []) (codes "config" ∷ args) h
in_group config_both args h =
    passed config_root (config_gap ∷ config_both ∷ []) (codes "config" ∷ args) (both_no_root args h)
    ∙ (passed config_gap (config_both ∷ []) (codes "config" ∷ args) (both_no_gap args h)
    ∙ taken config_both [] (codes "config" ∷ args) h)
in_group csr_read args h = taken csr_read (csr_write ∷ csr_lock ∷ []) (codes "csr" ∷ args) h
in_group csr_write args h =
    passed csr_read (csr_write ∷ csr_lock ∷ []) (codes "csr" ∷ args)
    (apart_behind (codes "write") (codes "read") refl (any_number ∷ any_number ∷ []) (any_number ∷ []) args h)
    ∙ taken csr_write (csr_lock ∷ []) (codes "csr" ∷ args) h
in_group csr_lock args h =
    passed csr_read (csr_write ∷ csr_lock ∷ []) (codes "csr" ∷ args)
    (apart_behind (codes "lock") (codes "read") refl
    (any_number ∷ a_number 0 255 ∷ any_number ∷ any_number ∷ []) (any_number ∷ []) args h)
    ∙ (passed csr_write (csr_lock ∷ []) (codes "csr" ∷ args)
    (apart_behind (codes "lock") (codes "write") refl
    (any_number ∷ a_number 0 255 ∷ any_number ∷ any_number ∷ [])
    (any_number ∷ any_number ∷ []) args h)
    ∙ taken csr_lock [] (codes "csr" ∷ args) h)
in_group plug args h = taken plug [] (codes "plug" ∷ args) h
in_group pull args h = taken pull [] (codes "pull" ∷ args) h
in_group reset args h = taken reset [] (codes "reset" ∷ args) h
in_group turn args h = taken turn [] (codes "turn" ∷ args) h
in_group hold args h = taken hold [] (codes "hold" ∷ args) h
in_group settle args h = taken settle [] (codes "settle" ∷ args) h
in_group look args h = taken look [] (codes "look" ∷ args) h
in_group allocate args h = taken allocate [] (codes "allocate" ∷ args) h
in_group release args h = taken release [] (codes "release" ∷ args) h
in_group manager args h = taken manager [] (codes "manager" ∷ args) h
in_group plan args h = taken plan [] (codes "plan" ∷ args) h
in_group maps args h = taken maps [] (codes "maps" ∷ args) h
in_group delay args h = taken delay [] (codes "delay" ∷ args) h
in_group times_2000 args h = taken times_2000 (times_1995 ∷ []) (codes "times" ∷ args) h
in_group times_1995 args h =
    passed times_2000 (times_1995 ∷ []) (codes "times" ∷ args)
    (apart (codes "1394-1995") (codes "1394a") refl (a_number 1 4294967295 ∷ [])
    (a_number 1 4294967295 ∷ []) args h)
    ∙ taken times_1995 [] (codes "times" ∷ args) h
in_group clock_paced args h = taken clock_paced (clock_first ∷ []) (codes "clock" ∷ args) h
in_group clock_first args h =
    passed clock_paced (clock_first ∷ []) (codes "clock" ∷ args) (first_no_end args h)
    ∙ taken clock_first [] (codes "clock" ∷ args) h

unfit : (form : Form) → fit (shapes form) [] ≡ false
unfit plug = refl
unfit pull = refl
unfit reset = refl
unfit turn = refl
unfit hold = refl
unfit settle = refl
unfit config_root = refl
unfit config_gap = refl
unfit config_both = refl
unfit csr_read = refl
unfit csr_write = refl
unfit csr_lock = refl
unfit look = refl
unfit allocate = refl
unfit release = refl
unfit manager = refl
unfit plan = refl
unfit maps = refl
unfit delay = refl
unfit times_2000 = refl
unfit times_1995 = refl
unfit clock_paced = refl
unfit clock_first = refl

read_fixed : (times : TimeRanges) (form : Form) (words : List (List ℕ)) → fit (shapes form) words ≡ true
    → read_words times words ≡ by_form form words
read_fixed times form [] h = absurd (false_is_not_true (sym (unfit form) ∙ h))
read_fixed times form (word ∷ args) h =
    let same : word ≡ verb form = begins form word args h in
    let fits : fit (shapes form) (verb form ∷ args) ≡ true =
    ap (λ w. fit (shapes form) (w ∷ args)) (sym same) ∙ h in
    let differs : bytes_eq word (codes "node") ≡ false =
    ap (λ w. bytes_eq w (codes "node")) same ∙ not_node_verb form in
    sym (read_others times (word ∷ args) word args refl differs)
    ∙ (ap (λ w. read_by forms (w ∷ args)) same
    ∙ (grouped form args ∙ (in_group form args fits ∙ ap (λ w. by_form form (w ∷ args)) (sym same))))

-- what words say is what they say by any form that they have
pub read_form : (times : TimeRanges) (form : LineForm) (words : List (List ℕ)) → has_form form words ≡ true
    → read_words times words ≡ unless (wrong_word times form words) (meaning form words)
read_form times node words h =
    ap (λ b. cond b (unless (wrong_node times words) (node_command words)) (read_by forms words)) h
read_form times (other form) words h = read_fixed times form words h

no_fixed : (forms : List Form) (words : List (List ℕ))
    → ((form : Form) → fit (shapes form) words ≡ true → ⊥) → read_by forms words ≡ Err Word
no_fixed [] words h = refl
no_fixed (form ∷ forms) words h =
    passed form forms words (false_from_ne_true (fit (shapes form) words) (h form)) ∙ no_fixed forms words h

-- words that have no form are at fault
pub read_none : (times : TimeRanges) (words : List (List ℕ)) → HasNoForm words → read_words times words ≡ Err Word
read_none times words h =
    ap (λ b. cond b (unless (wrong_node times words) (node_command words)) (read_by forms words))
    (false_from_ne_true (has_node_form words) (h node))
    ∙ no_fixed forms words (λ form. h (other form))
