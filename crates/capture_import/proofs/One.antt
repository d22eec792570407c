-- An input names one list, and then it isn't refused.
use Rattle.std.proofs.Common.{◌≡◌, ◌∙◌, ◌⊎◌, inl, inr, ℕ, ◌+◌, ◌*◌, ◌/◌, ◌%◌, ◌^◌, ◌≤◌, Bool, true, false, List, [], ◌∷◌, Option, Some, None, drop, length, take, refl, ap, sym, subst, arith}
use Rattle.quad_lanes.specs.Pairs.{quads_of}
use Rattle.topology_map.specs.declared.fault.ImageFault.{ImageFault}
use Rattle.topology_map.specs.declared.fault.ImageFault.TheVariants.{Length, Crc, Counts, Memory}
use Rattle.topology_map.specs.Crc.{IsCrc}
use Rattle.topology_map.specs.Map.{IsMap, Refused, HasLength, counts_of}
use Rattle.topology_map.proofs.Lemmas.{joined, one_crc}
use Rattle.capture_import.specs.Image.{HasList, IsBadImage, image_of, kind_of, place_of}
use Rattle.capture_import.specs.Import.{Names, NamesBytes, IsBadText, IsCut, AreNoList, AreBadBytes, are_quadlets, bytes_in, is_good_text}
use Rattle.capture_import.specs.List.{HasPackets, HasNoPackets, NamesList, IsBadList, are_good, layout_of, order_in, to_its_end, packets_in}
use Rattle.capture_import.specs.OneImport.{NoInputNamesTwoLists, NoInputIsNamedAndRefused, NoInputHasTwoFaults}
use Rattle.capture_import.specs.declared.taken.Container.{Container}
use Rattle.capture_import.specs.declared.taken.Layout.{Layout}
use Rattle.capture_import.specs.declared.taken.Layout.TheVariants.{Pairs, Firsts, Buffer, Map}
use Rattle.capture_import.specs.declared.taken.Order.{Order}
use Rattle.capture_import.specs.declared.taken.Taken.{Taken}
use Rattle.capture_import.specs.declared.fault.FaultKind.{FaultKind}
use Rattle.capture_import.specs.declared.fault.ImportFault.{ImportFault}

some_same : {A : Type 0} (x y : A) → Some x ≡ Some y → x ≡ y
some_same x y e = cc

packets : (layout : Layout) (o p : Order) (quads a b : List ℕ) → HasPackets layout o quads a →
    HasPackets layout p quads b → (o ≡ p) × (a ≡ b)
packets layout o p quads a b h i =
    let same : o ≡ p = some_same o p (sym h.order_is ∙ i.order_is) in
    (same, h.list_is ∙ rw same (sym i.list_is))

images : (quads a b : List ℕ) → HasList quads a → HasList quads b → a ≡ b
images quads a b h i = sym (ap (drop 3) h.map.image.quads_are) ∙ ap (drop 3) i.map.image.quads_are

lists : (layout : Layout) (o p : Order) (quads a b : List ℕ) → NamesList layout o quads a →
    NamesList layout p quads b → (o ≡ p) × (a ≡ b)
lists Pairs o p quads a b h i = packets Pairs o p quads a b h i
lists Buffer o p quads a b h i = packets Buffer o p quads a b h i
lists Firsts o p quads a b h i = packets Firsts o p quads a b h i
lists Map o p quads a b h i = (h.1 ∙ sym i.1, images quads a b h.0 i.0)

-- the same where the layouts and the quadlets are only known to be equal
moved : (k l : Layout) (o p : Order) (q r a b : List ℕ) → k ≡ l → q ≡ r → NamesList k o q a →
    NamesList l p r b → (o ≡ p) × (a ≡ b)
moved k l o p q r a b e f h i =
    lists l o p r a b (subst (λ (x : Layout). NamesList x o r a) e (subst (λ (x : List ℕ). NamesList k o x a) f h)) i

pub one_list : NoInputNamesTwoLists
one_list input t u a b h i =
    let containers : t.container ≡ u.container = h.names.container_is ∙ sym i.names.container_is in
    let bytes : h.bytes ≡ i.bytes = h.names.bytes_are ∙ (ap (λ (x : Container). bytes_in x input) containers ∙ sym i.names.bytes_are) in
    let quads : quads_of h.bytes ≡ quads_of i.bytes = ap quads_of bytes in
    let layouts : t.layout ≡ u.layout = h.layout_is ∙ (ap layout_of quads ∙ sym i.layout_is) in
    let rest = moved t.layout u.layout t.order u.order (quads_of h.bytes) (quads_of i.bytes) a b layouts quads h.list_is i.list_is in
    (containers, layouts, rest.0, rest.1)

-- ---- named and refused

apart_tests : (b : Bool) → b ≡ true → b ≡ false → ⊥
apart_tests b t f = absurd cc

apart_options : {A : Type 0} (o : Option A) (x : A) → o ≡ Some x → o ≡ None → ⊥
apart_options o x s n = absurd cc

-- an image of a map has no fault
told_length : (first : ℕ) (body : List ℕ) → first / 2 ^ 16 ≡ length body → 2 ≤ length body → HasLength (first ∷ body)
told_length first body told two = record { three = omega arith; told = omega arith }

image_apart : (generation first crc : ℕ) (list : List ℕ) (f : ImageFault) →
    first / 2 ^ 16 ≡ length (generation ∷ counts_of list ∷ list) → first % 2 ^ 16 ≡ crc →
    IsCrc (generation ∷ counts_of list ∷ list) crc → Refused (first ∷ generation ∷ counts_of list ∷ list) f → ⊥
image_apart generation first crc list (Length fnd) long kept is r =
    r.0 (told_length first (generation ∷ counts_of list ∷ list) long (omega arith))
image_apart generation first crc list (Crc kept' computed) long kept is r =
    r.3 (r.1 ∙ (kept ∙ one_crc (generation ∷ counts_of list ∷ list) crc computed is r.2))
image_apart generation first crc list (Counts kept' fnd) long kept is r = r.4 (r.2 ∙ sym r.3)
image_apart generation first crc list (Memory e) long kept is r = r

map_apart : (generation nodes : ℕ) (list quads : List ℕ) (f : ImageFault) → IsMap generation nodes list quads →
    Refused quads f → ⊥
map_apart generation nodes list quads f h r =
    let body : List ℕ = generation ∷ counts_of list ∷ list in
    let i = h.image in
    let j = joined (length body) i.crc i.crc_is.degree in
    image_apart generation (2 ^ 16 * length body + i.crc) i.crc list f j.0 j.1 i.crc_is
    (subst (λ (q : List ℕ). Refused q f) i.quads_are r)

packets_apart : (layout : Layout) (order : Order) (quads list : List ℕ) (f : ImportFault) →
    HasPackets layout order quads list → HasNoPackets layout quads f → ⊥
packets_apart layout order quads list f h n = apart_options (order_in layout quads) order h.order_is (n.order_is h.good)

lists_apart : (layout : Layout) (order : Order) (quads list : List ℕ) (f : ImportFault) →
    NamesList layout order quads list → IsBadList layout quads f → ⊥
lists_apart Pairs order quads list f h n = packets_apart Pairs order quads list f h n
lists_apart Buffer order quads list f h n = packets_apart Buffer order quads list f h n
lists_apart Firsts order quads list f h n = packets_apart Firsts order quads list f h n
lists_apart Map order quads list f h n = map_apart h.0.generation h.0.nodes list (image_of quads) n.fault h.0.map n.refused

-- of the bytes that an input names
bytes_apart : (t : Taken) (bytes list : List ℕ) (f : ImportFault) → are_quadlets bytes ≡ true →
    t.layout ≡ layout_of (quads_of bytes) → NamesList t.layout t.order (quads_of bytes) list →
    IsCut bytes f ⊎ AreNoList bytes f → ⊥
bytes_apart t bytes list f whole layout names (inl cut) = apart_tests (are_quadlets bytes) whole cut.bad
bytes_apart t bytes list f whole layout names (inr bad) =
    lists_apart (layout_of (quads_of bytes)) t.order (quads_of bytes) list f
    (subst (λ (x : Layout). NamesList x t.order (quads_of bytes) list) layout names) bad.bad

-- an input names the same bytes, whatever it is taken for
same_bytes : (c e : Container) (input a b : List ℕ) → NamesBytes c input a → NamesBytes e input b → a ≡ b
same_bytes c e input a b h i =
    h.bytes_are ∙ (ap (λ (x : Container). bytes_in x input) (h.container_is ∙ sym i.container_is) ∙ sym i.bytes_are)

pub named_apart : NoInputIsNamedAndRefused
named_apart input t list f h (inl bad) =
    apart_tests (is_good_text t.container input) h.names.good
    (ap (λ (x : Container). is_good_text x input) (h.names.container_is ∙ sym bad.1.container_is) ∙ bad.1.bad)
named_apart input t list f h (inr bad) =
    let same : bad.bytes ≡ h.bytes = same_bytes bad.container t.container input bad.bytes h.bytes bad.names h.names in
    bytes_apart t h.bytes list f h.whole h.layout_is h.list_is
    (subst (λ (x : List ℕ). IsCut x f ⊎ AreNoList x f) same bad.bad)

-- ---- one fault

made : FaultKind → ℕ → ImportFault
made kind at = record { quadlet = at; kind = kind }

same_fault : (f g : ImportFault) → f.kind ≡ g.kind → f.quadlet ≡ g.quadlet → f ≡ g
unfolding made
same_fault f g k q = ap (λ (x : FaultKind). made x f.quadlet) k ∙ ap (λ (n : ℕ). made g.kind n) q

-- an image has one fault
image_fault : (quads : List ℕ) (f g : ImageFault) → Refused quads f → Refused quads g →
    (kind_of f ≡ kind_of g) × (place_of f ≡ place_of g)
image_fault quads (Length a) (Length b) x y = (refl, refl)
image_fault quads (Length a) (Crc kept computed) x y = absurd (x.0 y.0)
image_fault quads (Length a) (Counts kept fnd) x y = absurd (x.0 y.0)
image_fault quads (Length a) (Memory e) x y = absurd y
image_fault quads (Crc kept computed) (Length b) x y = absurd (y.0 x.0)
image_fault quads (Crc kept computed) (Crc old new) x y = (refl, refl)
image_fault quads (Crc kept computed) (Counts old fnd) x y =
    absurd (x.3 (x.1 ∙ one_crc (drop 1 quads) _ computed y.1 x.2))
image_fault quads (Crc kept computed) (Memory e) x y = absurd y
image_fault quads (Counts kept fnd) (Length b) x y = absurd (y.0 x.0)
image_fault quads (Counts kept fnd) (Crc old computed) x y =
    absurd (y.3 (y.1 ∙ one_crc (drop 1 quads) _ computed x.1 y.2))
image_fault quads (Counts kept fnd) (Counts old new) x y = (refl, refl)
image_fault quads (Counts kept fnd) (Memory e) x y = absurd y
image_fault quads (Memory e) g x y = absurd x

map_fault : (quads : List ℕ) (f g : ImportFault) → IsBadImage quads f.kind f.quadlet →
    IsBadImage quads g.kind g.quadlet → f ≡ g
map_fault quads f g x y =
    let same = image_fault (image_of quads) x.fault y.fault x.refused y.refused in
    same_fault f g (x.kind_is ∙ same.0 ∙ sym y.kind_is) (x.place_is ∙ same.1 ∙ sym y.place_is)

packets_fault : (layout : Layout) (quads : List ℕ) (f g : ImportFault) → HasNoPackets layout quads f →
    HasNoPackets layout quads g → f ≡ g
packets_fault layout quads f g x y =
    same_fault f g (x.kind_is ∙ sym y.kind_is) (x.place_is ∙ sym y.place_is)

list_fault : (layout : Layout) (quads : List ℕ) (f g : ImportFault) → IsBadList layout quads f →
    IsBadList layout quads g → f ≡ g
list_fault Pairs quads f g x y = packets_fault Pairs quads f g x y
list_fault Buffer quads f g x y = packets_fault Buffer quads f g x y
list_fault Firsts quads f g x y = packets_fault Firsts quads f g x y
list_fault Map quads f g x y = map_fault quads f g x y

bytes_fault : (bytes : List ℕ) (f g : ImportFault) → IsCut bytes f ⊎ AreNoList bytes f →
    IsCut bytes g ⊎ AreNoList bytes g → f ≡ g
bytes_fault bytes f g (inl x) (inl y) =
    same_fault f g (x.kind_is ∙ sym y.kind_is) (x.place_is ∙ sym y.place_is)
bytes_fault bytes f g (inl x) (inr y) = absurd (apart_tests (are_quadlets bytes) y.whole x.bad)
bytes_fault bytes f g (inr x) (inl y) = absurd (apart_tests (are_quadlets bytes) x.whole y.bad)
bytes_fault bytes f g (inr x) (inr y) =
    list_fault (layout_of (quads_of bytes)) (quads_of bytes) f g x.bad y.bad

-- a text that is bad names no bytes
text_apart : (c e : Container) (input bytes : List ℕ) (f : ImportFault) → IsBadText c input f →
    NamesBytes e input bytes → ⊥
text_apart c e input bytes f bad names =
    apart_tests (is_good_text e input) names.good
    (ap (λ (x : Container). is_good_text x input) (names.container_is ∙ sym bad.container_is) ∙ bad.bad)

text_fault : (c e : Container) (input : List ℕ) (f g : ImportFault) → IsBadText c input f →
    IsBadText e input g → f ≡ g
text_fault c e input f g x y =
    let same : c ≡ e = x.container_is ∙ sym y.container_is in
    let z : IsBadText e input f = subst (λ (k : Container). IsBadText k input f) same x in
    same_fault f g (z.kind_is ∙ sym y.kind_is) (z.place_is ∙ sym y.place_is)

pub one_fault : NoInputHasTwoFaults
one_fault input f g (inl x) (inl y) = text_fault x.0 y.0 input f g x.1 y.1
one_fault input f g (inl x) (inr y) = absurd (text_apart x.0 y.container input y.bytes f x.1 y.names)
one_fault input f g (inr x) (inl y) = absurd (text_apart y.0 x.container input x.bytes g y.1 x.names)
one_fault input f g (inr x) (inr y) =
    let same : x.bytes ≡ y.bytes = same_bytes x.container y.container input x.bytes y.bytes x.names y.names in
    bytes_fault y.bytes f g (subst (λ (b : List ℕ). IsCut b f ⊎ AreNoList b f) same x.bad) y.bad
