-- The components of a report, one behind the other.
use Rattle.std.proofs.Common.{◌≡◌, ◌∙◌, ℕ, suc, ◌+◌, ◌-◌, ◌<◌, Bool, true, false, List, [], ◌∷◌, ◌++◌, drop, append_assoc, ap, refl, subst, sym, arith}
use Rattle.std.specs.Prelude.{◌==◌, codes, decimal}
use Rattle.std.specs.Int.{bit_at}
use Rattle.topology_stack.specs.Tree.{Tree}
use Rattle.bus_json.specs.Bus.{tree_members}
use Rattle.json.specs.Token.{Token, begin_object, end_object, begin_array, end_array, key, number}
use Rattle.json.specs.Json.{Items, no_items, item, Members, no_members, member, object, array}
use Rattle.json.specs.Tree.{json_tokens, items_tokens, members_tokens}
use Rattle.settle.specs.declared.report.Part.{Part}
use Rattle.script_text.specs.ReportText.{Names, name_of}
use Rattle.report_views.specs.ReportJson.{held_item, names_from, set_names, component_value, AreComponents}
use Rattle.report_views.specs.codings.Written.{held_tokens, IsComponentWritten, AreWritten}

-- ---- names

held_written : (held : Bool) (name : List ℕ) (rest : Items) →
    items_tokens (held_item held name rest) ≡ held_tokens held name ++ items_tokens rest
held_written false name rest = refl
held_written true name rest = refl

pub name_more :
    (names : Names) (set node : ℕ) (old new whole : List Token) → node < 63 →
    new ≡ old ++ held_tokens (bit_at set node == 1) (name_of names node) →
    old ++ items_tokens (names_from names set node (63 - node)) ≡ whole →
    new ++ items_tokens (names_from names set (node + 1) (63 - (node + 1))) ≡ whole
name_more names set node old new whole lt e h =
    let count : 63 - node ≡ suc (63 - (node + 1)) = omega (arith, lt) in
    let rest : Items = names_from names set (node + 1) (63 - (node + 1)) in
    let held : List Token = held_tokens (bit_at set node == 1) (name_of names node) in
    let k : old ++ (held ++ items_tokens rest) ≡ whole =
    ap (λ (l : List Token). old ++ l) (sym (held_written (bit_at set node == 1) (name_of names node) rest))
    ∙ ap (λ (n : ℕ). old ++ items_tokens (names_from names set node n)) (sym count) ∙ h in
    ap (λ (l : List Token). l ++ items_tokens rest) e ∙ append_assoc old held (items_tokens rest) ∙ k

pub names_end :
    (names : Names) (set node : ℕ) (old before out new whole : List Token) → node ≡ 63 →
    before ≡ old ++ begin_array ∷ [] →
    out ++ items_tokens (names_from names set node (63 - node)) ≡ before ++ whole →
    new ≡ out ++ end_array ∷ [] → new ≡ old ++ begin_array ∷ whole
names_end names set node old before out new whole end begun h e =
    let none : 63 - node ≡ 0 = omega (arith, end) in
    let k : out ++ end_array ∷ [] ≡ before ++ whole =
    ap (λ (n : ℕ). out ++ items_tokens (names_from names set node n)) (sym none) ∙ h in
    e ∙ k ∙ ap (λ (l : List Token). l ++ whole) begun ∙ append_assoc old (begin_array ∷ []) whole

-- ---- trees

-- the member of a tree, one token behind the other
pub tree_written :
    (names : Names) (t : Tree) (old a b d new : List Token) → a ≡ old ++ key (codes "tree") ∷ [] →
    b ≡ a ++ begin_object ∷ [] → d ≡ b ++ members_tokens (tree_members names t) → new ≡ d ++ end_object ∷ [] →
    new ≡ old ++ members_tokens (member (codes "tree") (object (tree_members names t)) no_members)
tree_written names t old a b d new ea eb ed en = simp (en, ed, eb, ea, append_assoc)

-- ---- components

-- a component, one token behind the other
pub component_written :
    (names : Names) (part : Part) (outcome : Members) (old a b d e f new : List Token) →
    a ≡ old ++ begin_object ∷ [] → b ≡ a ++ key (codes "rounds") ∷ number (decimal part.rounds) ∷ [] →
    d ≡ b ++ key (codes "changed") ∷ number (decimal part.changed) ∷ [] → e ≡ d ++ key (codes "names") ∷ [] →
    f ≡ e ++ json_tokens (array (set_names names part.nodes)) → new ≡ f ++ members_tokens outcome →
    new ≡ old ++ json_tokens (component_value names part outcome)
component_written names part outcome old a b d e f new ea eb ed ee ef en = simp (en, ef, ee, ed, eb, ea, append_assoc)

-- whatever items the parts from one on have, they make the items of all parts
abbrev pub Complete : Names → List Part → ℕ → List Token → List Token → Type 0
Complete names parts k old mid =
    (more : Items) → AreComponents names (drop k parts) more →
    AreWritten names parts old (mid ++ items_tokens more)

pub none-yet : (names : Names) (parts : List Part) (old : List Token) → Complete names parts 0 old old
none-yet names parts old more are = record { items = more; told = are; is = refl }

pub one-more :
    (names : Names) (parts : List Part) (k : ℕ) (part : Part) (old mid new : List Token) →
    drop k parts ≡ part ∷ drop (k + 1) parts → Complete names parts k old mid →
    IsComponentWritten names part mid new → Complete names parts (k + 1) old new
one-more names parts k part old mid new at so one more are =
    let value = component_value names part one.outcome in
    let Are : List Part → Type 0 = λ ps. AreComponents names ps (item value more) in
    let same : mid ++ (json_tokens value ++ items_tokens more) ≡ new ++ items_tokens more =
    sym (append_assoc mid (json_tokens value) (items_tokens more))
    ∙ ap (λ (l : List Token). l ++ items_tokens more) (sym one.is) in
    subst (AreWritten names parts old) same
    (so (item value more) (subst Are (sym at) (one.outcome, more, one.told, are, refl)))

pub all-there : (names : Names) (parts : List Part) (k : ℕ) (old mid new : List Token) →
    drop k parts ≡ [] → new ≡ mid ++ items_tokens no_items → Complete names parts k old mid →
    AreWritten names parts old new
all-there names parts k old mid new end is so =
    let Are : List Part → Type 0 = λ ps. AreComponents names ps no_items in
    subst (AreWritten names parts old) (sym is) (so no_items (subst Are (sym end) refl))
