-- Each list is shown, and told, as something.
use Rattle.std.proofs.Common.{◌≡◌, ◌⊎◌, inl, inr, ℕ, zero, suc, ◌-◌, ◌*◌, ◌/◌, ◌%◌, ◌^◌, ◌<◌, ◌≤◌, Bool, true, false, eqb, eqb-true, Option, Some, None, List, [], ◌∷◌, ◌++◌, length, refl, subst, arith}
use Rattle.std.specs.Prelude.{if◌then◌else◌, nat_lt, codes}
use Rattle.std.proofs.lemmas.Bool.{eqb-false}
use Rattle.std.proofs.lemmas.Bool.Decides.{nat_tests}
use Rattle.quad_lanes.specs.Pairs.{firsts, first_bad_pair}
use Rattle.phy_packet.specs.declared.packet.PhyPacket.{PhyPacket}
use Rattle.self_id.specs.declared.standard.Standard.{Standard}
use Rattle.json.specs.Json.{Members}
use Rattle.bus_json.specs.Bus.{tree_members}
use Rattle.reset_list.specs.Json.{list_fault, IsListTold, told_refused, told_heard}
use Rattle.topology_stack.specs.Tree.{Tree, walk}
use Rattle.topology_stack.proofs.Lemmas.{one_of}
use Rattle.view_text.specs.Drawing.{IsDrawing}
use Rattle.log_line.specs.declared.line.Origin.{Origin}
use Rattle.log_line.specs.declared.line.Origin.TheVariants.{Controller, Core}
use Rattle.capture_reading.specs.declared.fault.CaptureFault.{CaptureFault}
use Rattle.capture_reading.specs.declared.fault.CaptureFault.TheVariants.{BadLength, BadInverse, Tree as OfTree}
use Rattle.capture_reading.specs.Line.{refusal_of}
use Rattle.reset_list.specs.Hear.{IsHeard, IsUnheard}
use Rattle.reset_list.specs.Texts.{numbers, changes, node_changes, initiators, refused}
use Rattle.reset_list.specs.Sentence.{packet_count, quad_at, IsBefore, sentence}
use Rattle.reset_list.specs.Shown.{IsBody, the_same, drawn, IsListShown, is_refused, is_heard, IsListShort, short_refused, short_heard}
use Rattle.view_text.proofs.Lemmas.{some-packet, some-drawing}
use Rattle.log_line.proofs.Lemmas.{Fit, fit_at}

-- ---- a list is heard, or it isn't

abbrev HeardOrNot : Standard → Origin → List ℕ → Type 0
HeardOrNot standard origin list =
    ((t : Tree) × IsHeard standard origin list t) ⊎ ((f : CaptureFault) × IsUnheard standard origin list f)

pairs_heard : (standard : Standard) (list : List ℕ) (bad : Option ℕ) → length list % 2 ≡ 0 →
    first_bad_pair list ≡ bad → HeardOrNot standard Controller list
pairs_heard standard list (Some pair) whole is = inr (BadInverse pair, (whole, is))
pairs_heard standard list None whole is = elim (one_of standard (firsts list)) [
  | inl (t, bus, e) ↦ inl (t, (firsts list, record { whole = whole; good = is; quads_are = refl }, bus, e))
  | inr (f, e) ↦ inr (OfTree f, (firsts list, record { whole = whole; good = is; quads_are = refl }, e))
]

heard_or_not : (standard : Standard) (origin : Origin) (list : List ℕ) → HeardOrNot standard origin list
heard_or_not standard Core list = elim (one_of standard list) [
  | inl (t, bus, e) ↦ inl (t, (list, refl, bus, e))
  | inr (f, e) ↦ inr (OfTree f, (list, refl, e))
]
heard_or_not standard Controller list =
    elim (eqb (length list % 2) 0) as (λ (v : Bool). eqb (length list % 2) 0 ≡ v → HeardOrNot standard Controller list) [
      | true ↦ λ e. pairs_heard standard list (first_bad_pair list) (eqb-true _ _ e) refl
      | false ↦ λ e. inr (BadLength (length list / 2), (eqb-false _ _ e, refl))
    ] refl

-- ---- a fault has a text

if_fits : (b : Bool) (x : ℕ) → (b ≡ true → x < 2 ^ 32) → (if b then x else 0) < 2 ^ 32
if_fits true x f = f refl
if_fits false x f = omega arith

quad_fits : (origin : Origin) (list : List ℕ) (at : ℕ) → Fit list → quad_at origin list at < 2 ^ 32
quad_fits Controller list at f = if_fits (nat_lt at (length list / 2)) _ (λ e.
    let lt : at < length list / 2 = grind (arith, nat_tests, e) in
    fit_at list (2 * at) f (omega (arith, lt)))
quad_fits Core list at f = if_fits (nat_lt at (length list)) _ (λ e.
    let lt : at < length list = grind (arith, nat_tests, e) in
    fit_at list at f lt)

some_before : (origin : Origin) (list : List ℕ) (at : ℕ) → Fit list →
    (p : Option PhyPacket) × IsBefore origin list at p
some_before origin list at f =
    elim (nat_lt (packet_count origin list) at) as (λ (v : Bool). nat_lt (packet_count origin list) at ≡ v → (p : Option PhyPacket) × IsBefore origin list at p) [
      | true ↦ λ e. let over : packet_count origin list < at = grind (arith, nat_tests, e) in (None, inr over)
      | false ↦ λ e. let few : at ≤ packet_count origin list = grind (arith, nat_tests, e) in go at few refl
    ] refl
  where
    go : (k : ℕ) → at ≤ packet_count origin list → at ≡ k → (p : Option PhyPacket) × IsBefore origin list at p
    go zero few e = (None, inl e)
    go (suc k) few e =
        let p = some-packet (quad_at origin list (at - 1)) (quad_fits origin list (at - 1) f) in
        (Some p.0, (omega (arith, e), few, p.1))

-- ---- a tree has a text

same_or_not : (a b : List ℕ) → (a ≡ b) ⊎ (a ≡ b → ⊥)
same_or_not [] [] = inl refl
same_or_not [] (y ∷ ys) = inr (λ e. absurd cc)
same_or_not (x ∷ xs) [] = inr (λ e. absurd cc)
same_or_not (x ∷ xs) (y ∷ ys) = go (eqb x y) refl (same_or_not xs ys)
  where
    go : (v : Bool) → eqb x y ≡ v → (xs ≡ ys) ⊎ (xs ≡ ys → ⊥) →
        (x ∷ xs ≡ y ∷ ys) ⊎ (x ∷ xs ≡ y ∷ ys → ⊥)
    go true e (inl same) = let first : x ≡ y = eqb-true _ _ e in inl (rw (first, same) refl)
    go true e (inr other) = inr (λ f. other (let rest : xs ≡ ys = cc in rest))
    go false e rest = inr (λ f. eqb-false _ _ e (let first : x ≡ y = cc in first))

some_body : (before : Option Tree) (t : Tree) →
    (text : List ℕ) × (by_node : List ℕ) × IsBody before t text by_node
some_body None t = let d = some-drawing t in (d.0, node_changes None t, drawn d.1 (λ old is. absurd cc) refl)
some_body (Some old) t =
    let d = some-drawing t in
    let o = some-drawing old in
    elim (same_or_not o.0 d.0) [
      | inl same ↦ (codes "as before\n", [], the_same d.0 d.1 (old, refl, subst (λ (l : List ℕ). IsDrawing old l) same o.1) refl refl)
      | inr other ↦ (d.0, node_changes (Some old) t, drawn d.1 (λ tree is. (o.0, subst (λ (x : Tree). IsDrawing x o.0) (let same : old ≡ tree = cc in same) o.1, other)) refl)
    ]

-- ---- a list

pub some_list : (standard : Standard) (origin : Origin) (front list : List ℕ) (before : Option Tree) → Fit list →
    (text : List ℕ) × (heard : Option Tree) × IsListShown standard origin front list before text heard
some_list standard origin front list before f = elim (heard_or_not standard origin list) [
  | inl (t, h) ↦
      let b = some_body before t in
      (front ++ (numbers t ++ (b.0 ++ (changes before t ++ (b.1 ++ initiators 0 (walk t))))), Some t, is_heard t h (record { body = b.0; by_node = b.1; is_body = b.2; text_is = refl }) refl)
  | inr (g, un) ↦
      let p = some_before origin list (refusal_of g).pair f in
      (refused front g ++ sentence standard origin list p.0 g, None, is_refused g un (record { before = p.0; is_before = p.1; text_is = refl }) refl)
]

-- a list is told as something
pub some_told : (standard : Standard) (origin : Origin) (list : List ℕ) →
    (members : Members) × (heard : Option Tree) × IsListTold standard origin list members heard
some_told standard origin list = elim (heard_or_not standard origin list) [
  | inl (t, h) ↦ (tree_members [] t, Some t, told_heard t h refl refl)
  | inr (g, un) ↦ (list_fault g, None, told_refused g un refl refl)
]

-- in one line
pub some_short : (standard : Standard) (origin : Origin) (front list : List ℕ) →
    (text : List ℕ) × (heard : Option Tree) × IsListShort standard origin front list text heard
some_short standard origin front list = elim (heard_or_not standard origin list) [
  | inl (t, h) ↦ (front ++ numbers t, Some t, short_heard t h refl refl)
  | inr (g, un) ↦ (refused front g, None, short_refused g un refl refl)
]
