-- A whole group taken packet by packet.
use Rattle.std.proofs.Common.{◌≡◌, ℕ, suc, ◌+◌, ◌<◌, Bool, true, false, cond, leb, List, [], ◌∷◌, length, drop, Result, Ok, Err, refl, sym, ap, subst, ◌∙◌, arith, drop-drop, length-drop}
use Rattle.std.specs.Prelude.{MatchResult}
use Rattle.phy_packet.proofs.Lemmas.{packet_of}
use Rattle.phy_packet.specs.declared.packet.PhyPacket.{PhyPacket}
use Rattle.self_id.specs.declared.fault.GroupFault.{GroupFault}
use Rattle.self_id.specs.declared.fault.GroupFault.TheVariants.{TwoParents}
use Rattle.self_id.specs.declared.packets.ZeroPart.{ZeroPart}
use Rattle.self_id.specs.declared.packets.FurtherPart.{FurtherPart}
use Rattle.self_id.specs.declared.standard.Standard.{Standard}
use Rattle.self_id.specs.declared.standard.Standard.TheVariants.{Ieee1995, Ieee2000}
use Rattle.self_id.specs.Node.{Node, FitBits, HasForm, ups}
use Rattle.self_id.specs.Group.{group}
use Rattle.self_id.specs.Refused.{is_in_order}
use Rattle.self_id.specs.codings.Reading.{packet_at, owned_at, and_then, zero_in, further_in, zero_from, further_from, node3, node11, node16, node19, node27, node_of_three, goes_past, single, read_at, Gives}
use Rattle.self_id.proofs.Results.{not_both, same_fault, same_read}
use Rattle.self_id.proofs.Taken.{found, ZeroSaid, zero_said, FurtherSaid, further_said}
use Rattle.self_id.proofs.Steps.{TakenAs, whole, fault, tests}
use Rattle.self_id.proofs.Sound.{Fits, form11, form_three, form27}
use Rattle.self_id.proofs.Again.{turn3, turn11, turn_three, turn27, stop_second, stop_third, stop_fourth, group3, group11, group16, group19, group27}

-- ---- one packet

zero_step : (at id : ℕ) (l : List ℕ) →
    TakenAs (packet_at at id 0 l) zero_in (and_then (owned_at at id l) (zero_from at))
unfolding packet_at owned_at
zero_step at id [] = fault _ refl refl
zero_step at id (q ∷ qs) = tests _ _ (is_in_order 0) (packet_of q) _ _ _ zero_in

further_step : (at id n : ℕ) (l : List ℕ) →
    TakenAs (packet_at at id (suc n) l) further_in (and_then (owned_at at id l) (further_from at n))
unfolding packet_at owned_at
further_step at id n [] = fault _ refl refl
further_step at id n (q ∷ qs) = tests _ _ (is_in_order (suc n)) (packet_of q) _ _ _ further_in

-- packet zero stands at the front of a list, and says this
pub record ZeroTaken (at id : ℕ) (l : List ℕ) (z : ZeroPart) : Type 0 where
  pub packet : PhyPacket
  pub taken : packet_at at id 0 l ≡ Ok packet
  pub part : zero_in packet ≡ z

pub record FurtherTaken (at id n : ℕ) (l : List ℕ) (a : FurtherPart) : Type 0 where
  pub packet : PhyPacket
  pub taken : packet_at at id (suc n) l ≡ Ok packet
  pub part : further_in packet ≡ a

pub zero_ok : (at id : ℕ) (l : List ℕ) (z : ZeroPart) →
    Ok z ≡ and_then (owned_at at id l) (zero_from at) → ZeroTaken at id l z
zero_ok at id l z e = elim (zero_step at id l) [
  | whole p is part ↦
      record { packet = p; taken = is; part = same_read (zero_in p) z (sym part ∙ sym e) }
  | fault f is part ↦ absurd (not_both z f (e ∙ part))
]

pub zero_err : (at id : ℕ) (l : List ℕ) (f : GroupFault) →
    Err f ≡ and_then (owned_at at id l) (zero_from at) → packet_at at id 0 l ≡ Err f
zero_err at id l f e = elim (zero_step at id l) [
  | whole p is part ↦ absurd (not_both (zero_in p) f (sym part ∙ sym e))
  | fault g is part ↦ is ∙ ap (λ (h : GroupFault). Err h) (same_fault g f (sym part ∙ sym e))
]

pub further_ok : (at id n : ℕ) (l : List ℕ) (a : FurtherPart) →
    Ok a ≡ and_then (owned_at at id l) (further_from at n) → FurtherTaken at id n l a
further_ok at id n l a e = elim (further_step at id n l) [
  | whole p is part ↦
      record { packet = p; taken = is; part = same_read (further_in p) a (sym part ∙ sym e) }
  | fault f is part ↦ absurd (not_both a f (e ∙ part))
]

pub further_err : (at id n : ℕ) (l : List ℕ) (f : GroupFault) →
    Err f ≡ and_then (owned_at at id l) (further_from at n) → packet_at at id (suc n) l ≡ Err f
further_err at id n l f e = elim (further_step at id n l) [
  | whole p is part ↦ absurd (not_both (further_in p) f (sym part ∙ sym e))
  | fault g is part ↦ is ∙ ap (λ (h : GroupFault). Err h) (same_fault g f (sym part ∙ sym e))
]

pub zero_facts : (at id : ℕ) (l : List ℕ) (z : ZeroPart) (h : ZeroTaken at id l z) →
    ZeroSaid id h.packet z
zero_facts at id l z h =
    let f = found at id 0 l h.packet h.taken in
    subst (λ (y : ZeroPart). ZeroSaid id h.packet y) h.part (zero_said h.packet id f.shows.valid f.own f.order)

pub further_facts : (at id n : ℕ) (l : List ℕ) (a : FurtherPart) (h : FurtherTaken at id n l a) →
    FurtherSaid id n h.packet a
further_facts at id n l a h =
    let f = found at id (suc n) l h.packet h.taken in
    subst (λ (y : FurtherPart). FurtherSaid id n h.packet y) h.part (further_said h.packet id n f.shows.valid f.own f.order)

-- a list at whose front a packet stands isn't empty
pub some : (at id n : ℕ) (l : List ℕ) (a : FurtherPart) → FurtherTaken at id n l a → 0 < length l
some at id n l a h =
    let f = found at id (suc n) l h.packet h.taken in
    omega (arith, ap length f.front)

-- ---- the whole group, in a list of which it stands at a place

-- further on
on : (j : ℕ) (l : List ℕ) (at : ℕ) → drop j (drop at l) ≡ drop (at + j) l
on j l at = drop-drop j at l

pub zero_fits : (at id : ℕ) (l : List ℕ) (z : ZeroPart) → ZeroTaken at id l z → FitBits z.attrs
zero_fits at id l z h = (zero_facts at id l z h).fit

pub further_fits : (at id n : ℕ) (l : List ℕ) (a : FurtherPart) → FurtherTaken at id n l a → Fits a
further_fits at id n l a h = let s = further_facts at id n l a h in record { kept = s.kept; fields = s.fields }

-- a further packet of the group
taken_on : (at id j : ℕ) (q : List ℕ) (a : FurtherPart) (h : FurtherTaken (at + suc j) id j (drop (at + suc j) q) a) →
    packet_at (at + suc j) id (suc j) (drop (suc j) (drop at q)) ≡ Ok h.packet
taken_on at id j q a h = ap (packet_at (at + suc j) id (suc j)) (on (suc j) q at) ∙ h.taken

-- packets that were taken, one after the other
pub record Two (at id : ℕ) (q : List ℕ) (z : ZeroPart) (a : FurtherPart) : Type 0 where
  pub zero_is : ZeroTaken at id (drop at q) z
  pub goes_on : z.more ≡ true
  pub first_is : FurtherTaken (at + 1) id 0 (drop (at + 1) q) a

pub record Three (at id : ℕ) (q : List ℕ) (z : ZeroPart) (a b : FurtherPart) : Type 0 where
  pub two : Two at id q z a
  pub goes_on : a.more ≡ true
  pub second_is : FurtherTaken (at + 2) id 1 (drop (at + 2) q) b

pub record Four (at id : ℕ) (q : List ℕ) (z : ZeroPart) (a b c : FurtherPart) : Type 0 where
  pub three : Three at id q z a b
  pub goes_on : b.more ≡ true
  pub third_is : FurtherTaken (at + 3) id 2 (drop (at + 3) q) c

pub two_taken : (at id : ℕ) (q : List ℕ) (z : ZeroPart) (a : FurtherPart) →
    Ok z ≡ and_then (owned_at at id (drop at q)) (zero_from at) → z.more ≡ true →
    Ok a ≡ and_then (owned_at (at + 1) id (drop (at + 1) q)) (further_from (at + 1) 0) → Two at id q z a
two_taken at id q z a zero more first = record { zero_is = zero_ok at id (drop at q) z zero; goes_on = more; first_is = further_ok (at + 1) id 0 (drop (at + 1) q) a first }

pub three_taken : (at id : ℕ) (q : List ℕ) (z : ZeroPart) (a b : FurtherPart) → Two at id q z a →
    a.more ≡ true →
    Ok b ≡ and_then (owned_at (at + 2) id (drop (at + 2) q)) (further_from (at + 2) 1) →
    Three at id q z a b
three_taken at id q z a b two more second = record { two = two; goes_on = more; second_is = further_ok (at + 2) id 1 (drop (at + 2) q) b second }

pub four_taken : (at id : ℕ) (q : List ℕ) (z : ZeroPart) (a b c : FurtherPart) →
    Three at id q z a b → b.more ≡ true →
    Ok c ≡ and_then (owned_at (at + 3) id (drop (at + 3) q)) (further_from (at + 3) 2) →
    Four at id q z a b c
four_taken at id q z a b c three more third = record { three = three; goes_on = more; third_is = further_ok (at + 3) id 2 (drop (at + 3) q) c third }

-- a further packet that was taken lies within the list, and what it says fits
pub taken_fits : (at id n : ℕ) (q : List ℕ) (a : FurtherPart) →
    Ok a ≡ and_then (owned_at at id (drop at q)) (further_from at n) →
    (a.kept < 4) × (at < length q)
taken_fits at id n q a e =
    let h = further_ok at id n (drop at q) a e in
    ((further_facts at id n (drop at q) a h).kept, omega (arith, some at id n (drop at q) a h, length-drop at q))

pub two_forms : (at id : ℕ) (q : List ℕ) (z : ZeroPart) (a : FurtherPart) → Two at id q z a →
    HasForm (node11 z a)
two_forms at id q z a h = form11 z a (zero_fits at id (drop at q) z h.zero_is) (further_fits (at + 1) id 0 (drop (at + 1) q) a h.first_is)

pub three_forms : (standard : Standard) (at id : ℕ) (q : List ℕ) (z : ZeroPart) (a b : FurtherPart) →
    Three at id q z a b → HasForm (node_of_three standard z a b)
three_forms standard at id q z a b h =
    form_three standard z a b (zero_fits at id (drop at q) z h.two.zero_is) (further_fits (at + 1) id 0 (drop (at + 1) q) a h.two.first_is) (further_fits (at + 2) id 1 (drop (at + 2) q) b h.second_is)

pub four_forms : (at id : ℕ) (q : List ℕ) (z : ZeroPart) (a b c : FurtherPart) →
    Four at id q z a b c → HasForm (node27 z a b c)
four_forms at id q z a b c h =
    let t = h.three in
    form27 z a b c (zero_fits at id (drop at q) z t.two.zero_is) (further_fits (at + 1) id 0 (drop (at + 1) q) a t.two.first_is) (further_fits (at + 2) id 1 (drop (at + 2) q) b t.second_is) (further_fits (at + 3) id 2 (drop (at + 3) q) c h.third_is)

pub read3 : (standard : Standard) (at id : ℕ) (q : List ℕ) (z : ZeroPart) →
    ZeroTaken at id (drop at q) z → z.more ≡ false →
    read_at standard at id (drop at q) ≡ single at (node3 z)
read3 standard at id q z h last =
    let s = zero_facts at id (drop at q) z h in
    turn3 standard at id (drop at q) h.packet h.taken (s.more ∙ last) ∙ ap (λ (y : ZeroPart). single at (node3 y)) h.part

pub read11 : (standard : Standard) (at id : ℕ) (q : List ℕ) (z : ZeroPart) (a : FurtherPart) →
    Two at id q z a → a.more ≡ false → read_at standard at id (drop at q) ≡ single at (node11 z a)
read11 standard at id q z a t last =
    let h = t.zero_is in
    let i = t.first_is in
    let s = zero_facts at id (drop at q) z h in
    let s_a = further_facts (at + 1) id 0 (drop (at + 1) q) a i in
    turn11 standard at id (drop at q) h.packet i.packet h.taken (s.more ∙ t.goes_on) (taken_on at id 0 q a i) (s_a.more ∙ last)
    ∙ ap (λ (y : ZeroPart). single at (node11 y (further_in i.packet))) h.part ∙ ap (λ (y : FurtherPart). single at (node11 z y)) i.part

pub read_three : (standard : Standard) (at id : ℕ) (q : List ℕ) (z : ZeroPart) (a b : FurtherPart) →
    Three at id q z a b → goes_past standard b.more ≡ false →
    read_at standard at id (drop at q) ≡ single at (node_of_three standard z a b)
read_three standard at id q z a b t last =
    let h = t.two.zero_is in
    let i = t.two.first_is in
    let j = t.second_is in
    let s = zero_facts at id (drop at q) z h in
    let s_a = further_facts (at + 1) id 0 (drop (at + 1) q) a i in
    let s_b = further_facts (at + 2) id 1 (drop (at + 2) q) b j in
    turn_three standard at id (drop at q) h.packet i.packet j.packet h.taken (s.more ∙ t.two.goes_on) (taken_on at id 0 q a i) (s_a.more ∙ t.goes_on) (taken_on at id 1 q b j) (ap (goes_past standard) s_b.more ∙ last)
    ∙ ap (λ (y : ZeroPart). single at (node_of_three standard y (further_in i.packet) (further_in j.packet))) h.part
    ∙ ap (λ (y : FurtherPart). single at (node_of_three standard z y (further_in j.packet))) i.part ∙ ap (λ (y : FurtherPart). single at (node_of_three standard z a y)) j.part

pub read27 : (at id : ℕ) (q : List ℕ) (z : ZeroPart) (a b c : FurtherPart) → Four at id q z a b c →
    read_at Ieee1995 at id (drop at q) ≡ single at (node27 z a b c)
read27 at id q z a b c f =
    let t = f.three in
    let h = t.two.zero_is in
    let i = t.two.first_is in
    let j = t.second_is in
    let k = f.third_is in
    let s = zero_facts at id (drop at q) z h in
    let s_a = further_facts (at + 1) id 0 (drop (at + 1) q) a i in
    let s_b = further_facts (at + 2) id 1 (drop (at + 2) q) b j in
    turn27 at id (drop at q) h.packet i.packet j.packet k.packet h.taken (s.more ∙ t.two.goes_on) (taken_on at id 0 q a i) (s_a.more ∙ t.goes_on) (taken_on at id 1 q b j) (s_b.more ∙ f.goes_on) (taken_on at id 2 q c k)
    ∙ ap (λ (y : ZeroPart). single at (node27 y (further_in i.packet) (further_in j.packet) (further_in k.packet))) h.part
    ∙ ap (λ (y : FurtherPart). single at (node27 z y (further_in j.packet) (further_in k.packet))) i.part
    ∙ ap (λ (y : FurtherPart). single at (node27 z a y (further_in k.packet))) j.part ∙ ap (λ (y : FurtherPart). single at (node27 z a b y)) k.part

pub stopped_second : (standard : Standard) (at id : ℕ) (q : List ℕ) (z : ZeroPart) (f : GroupFault) →
    ZeroTaken at id (drop at q) z → z.more ≡ true →
    packet_at (at + 1) id 1 (drop (at + 1) q) ≡ Err f → read_at standard at id (drop at q) ≡ Err f
stopped_second standard at id q z f h more e =
    let s = zero_facts at id (drop at q) z h in
    stop_second standard at id (drop at q) h.packet f h.taken (s.more ∙ more) (ap (packet_at (at + 1) id 1) (on 1 q at) ∙ e)

pub stopped_third : (standard : Standard) (at id : ℕ) (q : List ℕ) (z : ZeroPart) (a : FurtherPart) (f : GroupFault) →
    Two at id q z a → a.more ≡ true → packet_at (at + 2) id 2 (drop (at + 2) q) ≡ Err f →
    read_at standard at id (drop at q) ≡ Err f
stopped_third standard at id q z a f t more e =
    let h = t.zero_is in
    let i = t.first_is in
    let s = zero_facts at id (drop at q) z h in
    let s_a = further_facts (at + 1) id 0 (drop (at + 1) q) a i in
    stop_third standard at id (drop at q) h.packet i.packet f h.taken (s.more ∙ t.goes_on) (taken_on at id 0 q a i) (s_a.more ∙ more) (ap (packet_at (at + 2) id 2) (on 2 q at) ∙ e)

pub stopped_fourth : (at id : ℕ) (q : List ℕ) (z : ZeroPart) (a b : FurtherPart) (f : GroupFault) →
    Three at id q z a b → b.more ≡ true → packet_at (at + 3) id 3 (drop (at + 3) q) ≡ Err f →
    read_at Ieee1995 at id (drop at q) ≡ Err f
stopped_fourth at id q z a b f t more e =
    let h = t.two.zero_is in
    let i = t.two.first_is in
    let j = t.second_is in
    let s = zero_facts at id (drop at q) z h in
    let s_a = further_facts (at + 1) id 0 (drop (at + 1) q) a i in
    let s_b = further_facts (at + 2) id 1 (drop (at + 2) q) b j in
    stop_fourth at id (drop at q) h.packet i.packet j.packet f h.taken (s.more ∙ t.two.goes_on) (taken_on at id 0 q a i) (s_a.more ∙ t.goes_on) (taken_on at id 1 q b j) (s_b.more ∙ more) (ap (packet_at (at + 3) id 3) (on 3 q at) ∙ e)

-- ---- what a group that was taken gives

single_is : (at : ℕ) (b : Bool) (m n : Node) →
    ◌≡◌ {A = Result Node GroupFault} (Ok n) (cond b (Ok m) (Err (TwoParents at))) → m ≡ n
single_is at true m n e = cc
single_is at false m n e = absurd cc

-- what is written and answered for a whole group's node
abbrev pub Whole : ℕ → ℕ → Node → Node → Result ℕ GroupFault → Type 0
Whole at after m n r = MatchResult r (λ x. (Ok n ≡ single at m) × (x ≡ after)) (λ f. Err f ≡ single at m)

pub gives : (standard : Standard) (at id k : ℕ) (l : List ℕ) (m n : Node) (r : Result ℕ GroupFault) →
    length (group m id) ≡ k → read_at standard at id l ≡ single at m → Whole at (at + k) m n r →
    MatchResult r (λ x. Gives standard at id l n x) (λ f. read_at standard at id l ≡ Err f)
gives standard at id k l m n (Ok after) size reads w = record {
  read = reads ∙ sym w.0;
  place = w.1 ∙ ap (λ (j : ℕ). at + j) (sym size ∙ ap (λ (x : Node). length (group x id)) (single_is at (leb (ups m.ports) 1) m n w.0));
}
gives standard at id k l m n (Err f) size reads w = reads ∙ sym w

pub size3 : (z : ZeroPart) (id : ℕ) → length (group (node3 z) id) ≡ 1
size3 z id = ap length (group3 (node3 z) id refl)

pub size11 : (z : ZeroPart) (a : FurtherPart) (id : ℕ) → length (group (node11 z a) id) ≡ 2
size11 z a id = ap length (group11 (node11 z a) id refl)

pub size_three : (standard : Standard) (z : ZeroPart) (a b : FurtherPart) (id : ℕ) →
    length (group (node_of_three standard z a b) id) ≡ 3
size_three Ieee1995 z a b id = ap length (group19 (node19 z a b) id refl)
size_three Ieee2000 z a b id = ap length (group16 (node16 z a b) id refl)

pub size27 : (z : ZeroPart) (a b c : FurtherPart) (id : ℕ) → length (group (node27 z a b c) id) ≡ 4
size27 z a b c id = ap length (group27 (node27 z a b c) id refl)
