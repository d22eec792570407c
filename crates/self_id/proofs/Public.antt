-- What reading tells, said of groups and faults.
use Rattle.std.proofs.Common.{◌≡◌, ℕ, ◌+◌, ◌-◌, ◌<◌, ◌≤◌, List, ◌++◌, length, drop, Result, Ok, Err, sym, ap, ◌∙◌, arith, drop-drop, length-drop, length-append}
use Rattle.std.specs.Prelude.{MatchResult, IfOk, IfErr, IsOkAnd, IsErrOf}
use Rattle.self_id.specs.declared.fault.GroupFault.{GroupFault}
use Rattle.self_id.specs.declared.standard.Standard.{Standard}
use Rattle.self_id.specs.Node.{Node}
use Rattle.self_id.specs.Group.{group, BeginsWith, StandsAt}
use Rattle.self_id.specs.Refused.{GroupRefused}
use Rattle.self_id.specs.codings.Reading.{read_at, Gives}
use Rattle.self_id.proofs.Results.{not_both, same_fault, same_read}
use Rattle.self_id.proofs.Lemmas.{group-read_at, refused-read_at, read_at-group, read_at-refused}

-- what was read of the list q at a place: a node, and the place after it or a fault
abbrev pub Taken : Standard → ℕ → ℕ → List ℕ → Node → Result ℕ GroupFault → Type 0
Taken standard at id q n r =
    MatchResult r (λ x. Gives standard at id (drop at q) n x)
    (λ f. read_at standard at id (drop at q) ≡ Err f)

pub found : (standard : Standard) (at id : ℕ) (q : List ℕ) (n : Node) (r : Result ℕ GroupFault) →
    at < length q → Taken standard at id q n r → IfOk r (λ x. StandsAt standard q at id n x)
found standard at id q n (Ok after) lt t =
    let p = group-read_at standard at id (drop at q) n t.read in
    let on : drop (length (group n id)) (drop at q) ≡ drop after q =
    drop-drop (length (group n id)) at q ∙ ap (λ (k : ℕ). drop k q) (sym t.place) in
    let parts : drop at q ≡ group n id ++ drop after q =
    p.2 ∙ ap (λ (l : List ℕ). group n id ++ l) on in
    let e : length q - at ≡ length (group n id) + length (drop after q) =
    sym (length-drop at q) ∙ ap length parts ∙ length-append (group n id) (drop after q) in
    record { is_node = p.0; is_of = p.1; parts = parts; place = t.place; inside = omega (arith, t.place) }
found standard at id q n (Err f) lt t = tt

pub only : (standard : Standard) (at id : ℕ) (q : List ℕ) (m : Node) (r : Result ℕ GroupFault) →
    id ≤ 62 → Taken standard at id q m r → (n : Node) → BeginsWith standard (drop at q) id n →
    IsOkAnd r (λ x. m ≡ n)
only standard at id q m (Ok after) lt t n h =
    same_read m n (sym t.read ∙ ap (read_at standard at id) h.parts
    ∙ read_at-group standard n at id h.rest h.is_node h.is_of lt)
only standard at id q m (Err f) lt t n h =
    absurd (not_both n f (sym (read_at-group standard n at id h.rest h.is_node h.is_of lt)
    ∙ ap (read_at standard at id) (sym h.parts) ∙ t))

pub refused : (standard : Standard) (at id : ℕ) (q : List ℕ) (n : Node) (r : Result ℕ GroupFault) →
    at < length q → Taken standard at id q n r →
    IfErr r (λ f. GroupRefused standard at id (drop at q) f)
refused standard at id q n (Ok x) lt t = tt
refused standard at id q n (Err f) lt t =
    refused-read_at standard at id (drop at q) f (omega (arith, length-drop at q)) t

pub exact : (standard : Standard) (at id : ℕ) (q : List ℕ) (n : Node) (r : Result ℕ GroupFault) →
    id ≤ 62 → Taken standard at id q n r → (f : GroupFault) →
    GroupRefused standard at id (drop at q) f → IsErrOf r f
exact standard at id q n (Ok after) lt t f is =
    absurd (not_both n f (sym t.read ∙ read_at-refused standard at id (drop at q) f lt is))
exact standard at id q n (Err g) lt t f is =
    ap (λ (h : GroupFault). Err h) (same_fault g f (sym t ∙ read_at-refused standard at id (drop at q) f lt is))
