-- A dump has one text.
use Rattle.std.proofs.Common.{◌≡◌, ◌∙◌, ℕ, ◌+◌, ◌<◌, ◌^◌, Bool, true, false, ◌||◌, is_none, Option, Some, None, List, [], ◌∷◌, ◌++◌, length, take, drop, refl, sym, ap, subst, append_assoc, append-nil, length-append, arith}
use Rattle.std.specs.Prelude.{is_some}
use Rattle.std.proofs.lemmas.Bool.Decides.{nat_tests}
use Rattle.std.proofs.lemmas.List.{take_at, drop_at}
use Rattle.std.proofs.lemmas.Nat.{from_le_bytes-to_le_bytes_4}
use Rattle.json.specs.Json.{Members}
use Rattle.bus_json.specs.Text.{json_line}
use Rattle.reset_list.specs.declared.form.LogForm.{LogForm}
use Rattle.reset_list.specs.declared.form.LogForm.TheVariants.{Text, Short, Json}
use Rattle.topology_stack.specs.Tree.{Tree}
use Rattle.log_line.specs.declared.line.Origin.TheVariants.{Core}
use Rattle.reset_list.specs.InOrder.{AreTold}
use Rattle.reset_list.proofs.Lemmas.{AreSame, told_once, same_list, same_short, same_told}
use Rattle.nosy_dump.specs.declared.record.DumpReset.{DumpReset}
use Rattle.nosy_dump.specs.declared.record.DumpFault.{DumpFault}
use Rattle.nosy_dump.specs.declared.record.DumpFault.TheVariants.{Cut, BadLength}
use Rattle.nosy_dump.specs.Record.{record_bytes, dump_of, is_size, AreSized, size_of, IsBelow, IsOpen, EndsSo}
use Rattle.nosy_dump.specs.Resets.{resets_from}
use Rattle.nosy_dump.specs.Texts.{head}
use Rattle.nosy_dump.specs.Json.{reset_value}
use Rattle.nosy_dump.specs.Noted.{Noted, nothing, after}
use Rattle.nosy_dump.specs.Dump.{IsJudged, last_text, IsResetShown}
use Rattle.nosy_dump.specs.OneText.{NoDumpHasTwoTexts}

-- ---- the records of a dump

small : (n : ℕ) → is_size n ≡ true → n < 2 ^ 32
small n e = grind (arith, nat_tests)

size_record : (r more : List ℕ) → is_size (length r) ≡ true →
    size_of (record_bytes r ++ more) ≡ Some (length r)
size_record r more e = ap (λ (n : ℕ). Some n) (from_le_bytes-to_le_bytes_4 (length r) (small (length r) e))

behind_length : (r more : List ℕ) → drop 4 (record_bytes r ++ more) ≡ r ++ more
behind_length r more = refl

-- no record stands where a dump ends
no_record : (r more rest : List ℕ) (f : Option DumpFault) → is_size (length r) ≡ true →
    rest ≡ record_bytes r ++ more → EndsSo rest f → ⊥
no_record r more rest None e is ends = let none : record_bytes r ++ more ≡ [] = sym is ∙ ends in absurd cc
no_record r more rest (Some Cut) e is ends =
    let goes_on : IsBelow (size_of (record_bytes r ++ more)) (length (record_bytes r ++ more)) = subst IsOpen is ends.1 in
    let below : IsBelow (Some (length r)) (length (record_bytes r ++ more)) = subst (λ (s : Option ℕ). IsBelow s (length (record_bytes r ++ more))) (size_record r more e) goes_on in
    let size : length (record_bytes r ++ more) ≡ 4 + length (r ++ more) = omega arith in
    omega (arith, below.1, size, length-append r more)
no_record r more rest (Some (BadLength size)) e is ends =
    let same : Some (length r) ≡ Some size = sym (size_record r more e) ∙ ap size_of (sym is) ∙ ends.0 in
    let found : length r ≡ size = cc in
    let bad : is_size (length r) ≡ false = ap is_size found ∙ ends.1 in
    absurd cc

-- a record is told by its bytes
record NextIs (r q x y : List ℕ) : Type 0 where
  same : r ≡ q
  rest : x ≡ y

next_is : (r q x y : List ℕ) → is_size (length r) ≡ true → is_size (length q) ≡ true →
    record_bytes r ++ x ≡ record_bytes q ++ y → NextIs r q x y
next_is r q x y e f is =
    let sizes : Some (length r) ≡ Some (length q) = sym (size_record r x e) ∙ ap size_of is ∙ size_record q y f in
    let size : length r ≡ length q = cc in
    let behind : r ++ x ≡ q ++ y = ap (λ (l : List ℕ). drop 4 l) is in
    record {
      same = sym (take_at r x (length q) size) ∙ ap (λ (l : List ℕ). take (length q) l) behind ∙ take_at q y (length q) refl;
      rest = sym (drop_at r x (length q) size) ∙ ap (λ (l : List ℕ). drop (length q) l) behind ∙ drop_at q y (length q) refl;
    }

-- a dump that goes on behind records has them in front
pub front_records : (rs qs : List (List ℕ)) (x y : List ℕ) (g : Option DumpFault) → AreSized rs →
    AreSized qs → EndsSo y g → dump_of rs ++ x ≡ dump_of qs ++ y →
    (more : List (List ℕ)) × (qs ≡ rs ++ more) × (x ≡ dump_of more ++ y)
front_records [] qs x y g sized all ends is = (qs, refl, is)
front_records (r ∷ rs) [] x y g sized all ends is =
    absurd (no_record r (dump_of rs ++ x) y g sized.0 (sym is ∙ append_assoc (record_bytes r) (dump_of rs) x) ends)
front_records (r ∷ rs) (q ∷ qs) x y g sized all ends is =
    let next = next_is r q (dump_of rs ++ x) (dump_of qs ++ y) sized.0 all.0 (sym (append_assoc (record_bytes r) (dump_of rs) x) ∙ is ∙ append_assoc (record_bytes q) (dump_of qs) y) in
    let h = front_records rs qs x y g sized.1 all.1 ends next.rest in (
      h.0,
      ap (λ (l : List ℕ). l ∷ qs) (sym next.same) ∙ ap (λ (l : List (List ℕ)). r ∷ l) h.1,
      h.2,
    )

same_ends : (x : List ℕ) (f g : Option DumpFault) → EndsSo x f → EndsSo x g → f ≡ g
same_ends x None None a b = refl
same_ends x None (Some Cut) a b = absurd (b.0 a)
same_ends x None (Some (BadLength s)) a b =
    let none : size_of [] ≡ Some s = ap size_of (sym a) ∙ b.0 in absurd cc
same_ends x (Some Cut) None a b = absurd (a.0 b)
same_ends x (Some Cut) (Some Cut) a b = refl
same_ends x (Some Cut) (Some (BadLength s)) a b = absurd (open_bad x s a.1 b.0 b.1)
  where
    open_bad : (y : List ℕ) (n : ℕ) → IsOpen y → size_of y ≡ Some n → is_size n ≡ false → ⊥
    open_bad y n goes_on size bad =
        let below : IsBelow (Some n) (length y) = subst (λ (o : Option ℕ). IsBelow o (length y)) size goes_on in
        let fits : is_size n ≡ true = below.0 in
        cc
same_ends x (Some (BadLength s)) None a b =
    let none : size_of [] ≡ Some s = ap size_of (sym b) ∙ a.0 in absurd cc
same_ends x (Some (BadLength s)) (Some Cut) a b = absurd (open_bad x s b.1 a.0 a.1)
  where
    open_bad : (y : List ℕ) (n : ℕ) → IsOpen y → size_of y ≡ Some n → is_size n ≡ false → ⊥
    open_bad y n goes_on size bad =
        let below : IsBelow (Some n) (length y) = subst (λ (o : Option ℕ). IsBelow o (length y)) size goes_on in
        let fits : is_size n ≡ true = below.0 in
        cc
same_ends x (Some (BadLength s)) (Some (BadLength k)) a b =
    let same : Some s ≡ Some k = sym a.0 ∙ b.0 in
    let size : s ≡ k = cc in
    ap (λ (n : ℕ). Some (BadLength n)) size

-- nothing stands between the records and where a dump ends
no_more_records : (more : List (List ℕ)) (x y : List ℕ) (f : Option DumpFault) → AreSized more →
    EndsSo x f → x ≡ dump_of more ++ y → (more ≡ []) × (x ≡ y)
no_more_records [] x y f sized ends is = (refl, is)
no_more_records (r ∷ rs) x y f sized ends is =
    absurd (no_record r (dump_of rs ++ y) x f sized.0 (is ∙ append_assoc (record_bytes r) (dump_of rs) y) ends)

sized_rest : (rs more : List (List ℕ)) → AreSized (rs ++ more) → AreSized more
sized_rest [] more h = h
sized_rest (r ∷ rs) more h = sized_rest rs more h.1

pub record OneParting (rs qs : List (List ℕ)) (f g : Option DumpFault) : Type 0 where
  pub records : rs ≡ qs
  pub fault : f ≡ g

pub one_parting : (rs qs : List (List ℕ)) (x y : List ℕ) (f g : Option DumpFault) → AreSized rs →
    AreSized qs → EndsSo x f → EndsSo y g → dump_of rs ++ x ≡ dump_of qs ++ y → OneParting rs qs f g
one_parting rs qs x y f g sized all ends too is =
    let h = front_records rs qs x y g sized all too is in
    let none = no_more_records h.0 x y f (sized_rest rs h.0 (subst AreSized h.1 all)) ends h.2 in
    record {
      records = sym (h.1 ∙ ap (λ (l : List (List ℕ)). rs ++ l) none.0 ∙ append-nil rs);
      fault = same_ends y f g (subst (λ (l : List ℕ). EndsSo l f) none.1 ends) too;
    }

-- ---- a reset, and a dump

same_judged : (form : LogForm) (n : ℕ) (before : Option Tree) (r : DumpReset) (a b : List ℕ) (h g : Option Tree) →
    IsJudged form n before r a h → IsJudged form n before r b g → (a ≡ b) × (h ≡ g)
same_judged (Text standard) n before r a b h g x y = same_list standard Core (head n r) r.list before a b h g x y
same_judged (Short standard) n before r a b h g x y = same_short standard Core (head n r) r.list a b h g x y
same_judged (Json standard) n before r a b h g x y =
    let same = same_told standard Core r.list x.members y.members h g x.told y.told in
    (x.text_is ∙ ap (λ (m : Members). json_line (reset_value n r m)) same.0 ∙ sym y.text_is, same.1)

pub same_reset : (form : LogForm) (n : ℕ) (before : Noted) (r : DumpReset) (a b : List ℕ) (c d : Bool) (p q : Noted) →
    IsResetShown form n before r a c p → IsResetShown form n before r b d q →
    AreSame a b c d p q
same_reset form n before r a b c d p q x y =
    let same = same_judged form n before.tree r a b x.heard y.heard x.shown y.shown in (
      same.0,
      x.bad_is ∙ ap (λ (t : Option Tree). is_none t) same.1 ∙ sym y.bad_is,
      x.next_is ∙ ap (λ (t : Option Tree). after before t) same.1 ∙ sym y.next_is,
    )

pub one_text : NoDumpHasTwoTexts
one_text form dump a b c d x y =
    let part = one_parting x.records y.records x.rest y.rest x.fault y.fault x.sized y.sized x.ends y.ends (sym x.dump_is ∙ y.dump_is) in
    let told : AreTold (IsResetShown form) 1 nothing (resets_from 0 y.records) x.resets_text x.is_refused x.known = subst (λ (rs : List (List ℕ)). AreTold (IsResetShown form) 1 nothing (resets_from 0 rs) x.resets_text x.is_refused x.known) part.records x.told in
    let same =
    told_once (IsResetShown form) (λ n s r e f g h p q. same_reset form n s r e f g h p q) 1 nothing (resets_from 0 y.records) x.resets_text y.resets_text x.is_refused y.is_refused x.known y.known told y.told
    in (
      x.text_is ∙ ap (λ (l : List ℕ). l ++ last_text form (length (dump_of x.records)) x.fault x.known) same.0
          ∙ ap (λ (rs : List (List ℕ)). y.resets_text ++ last_text form (length (dump_of rs)) x.fault x.known) part.records
          ∙ ap (λ (f : Option DumpFault). y.resets_text ++ last_text form (length (dump_of y.records)) f x.known) part.fault
          ∙ ap (λ (k : Noted). y.resets_text ++ last_text form (length (dump_of y.records)) y.fault k) same.2 ∙ sym y.text_is,
      x.bad_is ∙ ap (λ (v : Bool). v || is_some x.fault) same.1 ∙ ap (λ (f : Option DumpFault). y.is_refused || is_some f) part.fault ∙ sym y.bad_is,
    )
