-- What crates above use: reading answers a node exactly where its group stands at the front of a list,
-- and else the one fault that the list has there.
use Rattle.std.proofs.Common.{◌≡◌, ℕ, ◌<◌, ◌≤◌, Bool, true, false, cond, leb, IsTrue, List, [], ◌∷◌, ◌++◌, length, drop, Result, Ok, Err, refl, sym, ap, subst, ◌∙◌, arith}
use Rattle.std.proofs.lemmas.Bool.{le-leb, lt-leb, leb-true, leb-false}
use Rattle.self_id.specs.declared.fault.GroupFault.{GroupFault}
use Rattle.self_id.specs.declared.fault.GroupFault.TheVariants.{NotSelfId, WrongId, BadOrder, Cut, TwoParents}
use Rattle.self_id.specs.declared.standard.Standard.{Standard}
use Rattle.self_id.specs.declared.standard.Standard.TheVariants.{Ieee2000}
use Rattle.self_id.specs.Node.{Node, IsNode, IsOf, is_width_of, ups}
use Rattle.self_id.specs.Group.{group}
use Rattle.self_id.specs.Refused.{GroupRefused}
pub use Rattle.self_id.specs.codings.Reading.{read_at}
use Rattle.self_id.proofs.Results.{not_both, same_fault}
use Rattle.self_id.proofs.Taken.{refuses_end, refuses_other, refuses_owner, refuses_order}
use Rattle.self_id.proofs.Sound.{stopped, grouped, reading, three, eleven, sixteen, nineteen, full, width_of}
pub use Rattle.self_id.proofs.Again.{field_below, group3, group11, group16}
-- The bits of statuses.
pub use Rattle.self_id.proofs.Fields.{fields_below, fields_small, status_below}
use Rattle.self_id.proofs.Again.{again, stops_at, group19, group27}
-- Of the packets of a group the first alone is a packet zero, so a list of groups has as many packet
-- zeros as nodes.
pub use Rattle.self_id.proofs.Zeros.{node_count-append, node_count-group}
-- A node stored as plain numbers. No public contract cites this file.
pub use Rattle.self_id.specs.codings.Node.{node_code}

abbrev ok_node : Node → Result Node GroupFault
ok_node n = Ok n

single_ok : (at : ℕ) (b : Bool) (m n : Node) → cond b (Ok m) (Err (TwoParents at)) ≡ ok_node n →
    (b ≡ true) × (m ≡ n)
single_ok at true m n e = (refl, cc)
single_ok at false m n e = absurd cc

single_err : (at : ℕ) (b : Bool) (m : Node) (f : GroupFault) →
    cond b (ok_node m) (Err (TwoParents at)) ≡ Err f → (b ≡ false) × (TwoParents at ≡ f)
single_err at true m f e = absurd cc
single_err at false m f e = (refl, cc)

pub group-read_at : (standard : Standard) (at id : ℕ) (l : List ℕ) (n : Node) →
    read_at standard at id l ≡ Ok n →
    IsNode n × IsOf standard n × (l ≡ group n id ++ drop (length (group n id)) l)
group-read_at standard at id l n e = elim (reading standard at id l) [
  | stopped f is why ↦ absurd (not_both n f (sym e ∙ is))
  | grouped m form is_of parts is ↦
      let p = single_ok at (leb (ups m.ports) 1) m n (sym is ∙ e) in
      let P : Node → Type 0 = λ (k : Node). IsNode k × IsOf standard k × (l ≡ group k id ++ drop (length (group k id)) l) in
      subst P p.1 (record { form = form; one_parent = leb-true _ _ p.0 }, is_of, parts)
]

pub refused-read_at : (standard : Standard) (at id : ℕ) (l : List ℕ) (f : GroupFault) →
    0 < length l → read_at standard at id l ≡ Err f → GroupRefused standard at id l f
refused-read_at standard at id l f some e = elim (reading standard at id l) [
  | stopped g is why ↦
      subst (λ (h : GroupFault). GroupRefused standard at id l h) (same_fault g f (sym is ∙ e))
      (why some)
  | grouped m form is_of parts is ↦
      let p = single_err at (leb (ups m.ports) 1) m f (sym is ∙ e) in
      subst (λ (h : GroupFault). GroupRefused standard at id l h) p.1 (m, drop (length (group m id)) l, form, is_of, parts, let lt = leb-false _ _ p.0 in omega arith, refl)
]

pub read_at-group : (standard : Standard) (n : Node) (at id : ℕ) (rest : List ℕ) → IsNode n →
    IsOf standard n → id ≤ 62 → read_at standard at id (group n id ++ rest) ≡ Ok n
read_at-group standard n at id rest h is_of lt = again standard n at id rest h.form is_of lt ∙ ap (λ (b : Bool). cond b (Ok n) (Err (TwoParents at))) (le-leb _ _ h.one_parent)

pub read_at-refused : (standard : Standard) (at id : ℕ) (l : List ℕ) (f : GroupFault) → id ≤ 62 →
    GroupRefused standard at id l f → read_at standard at id l ≡ Err f
read_at-refused standard at id l (Cut place) lt (front, h, some) = stops_at standard at id l front [] place (Cut place) h (refuses_end place id (length front))
read_at-refused standard at id l (NotSelfId place) lt (front, rest, q, h, other) = stops_at standard at id l front (q ∷ rest) place (NotSelfId place) h (refuses_other place id (length front) q rest other)
read_at-refused standard at id l (WrongId place fnd wanted) lt (front, rest, q, p, h, shows, self, is, same, ne) =
    stops_at standard at id l front (q ∷ rest) place (WrongId place fnd wanted) h
    (refuses_owner place id (length front) q rest p shows self (λ own. ne (is ∙ own)) ∙ ap (λ (k : ℕ). Err (WrongId place k id)) (sym is) ∙ ap (λ (k : ℕ). Err (WrongId place fnd k)) (sym same))
read_at-refused standard at id l (BadOrder place) lt (front, rest, q, p, h, shows, self, own, order) =
    stops_at standard at id l front (q ∷ rest) place (BadOrder place) h (refuses_order place id (length front) q rest p shows self own order)
read_at-refused standard at id l (TwoParents place) lt (n, rest, form, is_of, parts, two, is) =
    ap (read_at standard at id) parts ∙ again standard n at id rest form is_of lt ∙ ap (λ (b : Bool). cond b (Ok n) (Err (TwoParents at))) (lt-leb _ _ two) ∙ ap (λ (k : ℕ). Err (TwoParents k)) (sym is)

-- how many packets a node has
length_by : (n : Node) (id k : ℕ) (l : List ℕ) → group n id ≡ l → length l ≡ k → 0 < k → k ≤ 4 →
    (0 < length (group n id)) × (length (group n id) ≤ 4)
length_by n id k l e count some few = (omega (arith, ap length e), omega (arith, ap length e))

pub length-group : (n : Node) (id : ℕ) → IsNode n →
    (0 < length (group n id)) × (length (group n id) ≤ 4)
length-group n id h = elim (width_of n h.form) [
  | three count ↦ length_by n id 1 _ (group3 n id count) refl (omega arith) (omega arith)
  | eleven count ↦ length_by n id 2 _ (group11 n id count) refl (omega arith) (omega arith)
  | sixteen count ↦ length_by n id 3 _ (group16 n id count) refl (omega arith) (omega arith)
  | nineteen count ↦ length_by n id 3 _ (group19 n id count) refl (omega arith) (omega arith)
  | full count ↦ length_by n id 4 _ (group27 n id count) refl (omega arith) (omega arith)
]

-- of IEEE 1394a-2000 three at most
pub three_packets : (n : Node) (id : ℕ) → IsNode n → IsOf Ieee2000 n → length (group n id) ≤ 3
three_packets n id h is_of = elim (width_of n h.form) [
  | three count ↦ omega (arith, ap length (group3 n id count))
  | eleven count ↦ omega (arith, ap length (group11 n id count))
  | sixteen count ↦ omega (arith, ap length (group16 n id count))
  | nineteen count ↦ absurd (let w : IsTrue (is_width_of Ieee2000 19) = rw count at is_of in cc)
  | full count ↦ absurd (let w : IsTrue (is_width_of Ieee2000 27) = rw count at is_of in cc)
]

pub few_slots : (n : Node) → IsNode n → length n.ports ≤ 27
few_slots n h = elim (width_of n h.form) [
  | three count ↦ omega arith
  | eleven count ↦ omega arith
  | sixteen count ↦ omega arith
  | nineteen count ↦ omega arith
  | full count ↦ omega arith
]
