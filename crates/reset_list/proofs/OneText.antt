-- A list is shown, and told, as one thing.
use Rattle.std.proofs.Common.{◌≡◌, ◌∙◌, ◌⊎◌, inl, inr, ℕ, ◌<◌, ◌≤◌, Option, Some, None, List, [], ◌++◌, refl, sym, ap, subst, arith}
use Rattle.quad_lanes.specs.Pairs.{first_bad_pair}
use Rattle.phy_packet.specs.declared.packet.PhyPacket.{PhyPacket}
use Rattle.phy_packet.proofs.Lemmas.{packet-shown}
use Rattle.self_id.specs.declared.standard.Standard.{Standard}
use Rattle.json.specs.Json.{Members}
use Rattle.bus_json.specs.Bus.{tree_members}
use Rattle.reset_list.specs.Json.{list_fault, IsListTold, told_refused, told_heard}
use Rattle.topology_stack.specs.declared.fault.TreeFault.{TreeFault}
use Rattle.topology_stack.specs.Refused.{Refused}
use Rattle.topology_stack.specs.Tree.{Tree}
use Rattle.topology_stack.proofs.Lemmas.{one_tree, no_fault, one_fault}
use Rattle.view_text.proofs.Lemmas.{same_drawing}
use Rattle.log_line.specs.declared.line.Origin.{Origin}
use Rattle.log_line.specs.declared.line.Origin.TheVariants.{Controller, Core}
use Rattle.capture_reading.specs.declared.fault.CaptureFault.{CaptureFault}
use Rattle.capture_reading.specs.declared.fault.CaptureFault.TheVariants.{BadLength, BadInverse, Tree as OfTree}
use Rattle.reset_list.specs.Hear.{AreQuads, IsHeard, IsUnheard}
use Rattle.reset_list.specs.Texts.{numbers, changes, initiators, refused}
use Rattle.reset_list.specs.Sentence.{packet_count, IsBefore, sentence, IsRefusalShown}
use Rattle.topology_stack.specs.Tree.{walk}
use Rattle.reset_list.specs.Shown.{IsBody, the_same, drawn, IsTreeShown, IsListShown, is_refused, is_heard, IsListShort, short_refused, short_heard}

-- ---- a list is heard as one tree, or has one fault

same_quads : (origin : Origin) (list a b : List ℕ) → AreQuads origin list a →
    AreQuads origin list b → a ≡ b
same_quads Controller list a b x y = x.quads_are ∙ sym y.quads_are
same_quads Core list a b x y = x ∙ sym y

same_heard : (standard : Standard) (origin : Origin) (list : List ℕ) (t u : Tree) →
    IsHeard standard origin list t → IsHeard standard origin list u → t ≡ u
same_heard standard origin list t u (a, are, bus, is) (b, too, other, again) =
    one_tree standard t u bus other (is ∙ same_quads origin list a b are too ∙ sym again)

abbrev OfNoTree : Standard → Origin → List ℕ → TreeFault → Type 0
OfNoTree standard origin list f = (quads : List ℕ) × AreQuads origin list quads × Refused standard quads f

heard_tree : (standard : Standard) (origin : Origin) (list : List ℕ) (t : Tree) (f : TreeFault) →
    IsHeard standard origin list t → OfNoTree standard origin list f → ⊥
heard_tree standard origin list t f (a, are, bus, is) (b, too, refused) =
    no_fault standard t f bus (subst (λ (l : List ℕ). Refused standard l f) (same_quads origin list b a too are ∙ sym is) refused)

apart : (standard : Standard) (origin : Origin) (list : List ℕ) (t : Tree) (f : CaptureFault) →
    IsHeard standard origin list t → IsUnheard standard origin list f → ⊥
apart standard Controller list t (BadLength pair) h r = r.0 h.1.whole
apart standard Core list t (BadLength pair) h r = r
apart standard Controller list t (BadInverse pair) h r =
    let good : first_bad_pair list ≡ None = h.1.good in
    let bad : first_bad_pair list ≡ Some pair = r.1 in
    cc
apart standard Core list t (BadInverse pair) h r = r
apart standard Controller list t (OfTree f) h r = heard_tree standard Controller list t f h r
apart standard Core list t (OfTree f) h r = heard_tree standard Core list t f h r

same_tree_fault : (standard : Standard) (origin : Origin) (list : List ℕ) (f g : TreeFault) →
    OfNoTree standard origin list f → OfNoTree standard origin list g → OfTree f ≡ OfTree g
same_tree_fault standard origin list f g (a, are, x) (b, too, y) =
    ap (λ (h : TreeFault). OfTree h) (one_fault standard b f g (subst (λ (l : List ℕ). Refused standard l f) (same_quads origin list a b are too) x) y)

same_pair : (p q : ℕ) (found : Option ℕ) → found ≡ Some p → found ≡ Some q → p ≡ q
same_pair p q found a b = cc

no_pair : (p : ℕ) (found : Option ℕ) → found ≡ Some p → found ≡ None → ⊥
no_pair p found a b = cc

same_fault : (standard : Standard) (origin : Origin) (list : List ℕ) (f g : CaptureFault) →
    IsUnheard standard origin list f → IsUnheard standard origin list g → f ≡ g
same_fault standard Controller list (BadLength p) (BadLength q) x y = ap (λ (n : ℕ). BadLength n) (x.1 ∙ sym y.1)
same_fault standard Controller list (BadLength p) (BadInverse q) x y = absurd (x.0 y.0)
same_fault standard Controller list (BadLength p) (OfTree g) x y = absurd (x.0 y.1.whole)
same_fault standard Controller list (BadInverse p) (BadLength q) x y = absurd (y.0 x.0)
same_fault standard Controller list (BadInverse p) (BadInverse q) x y = ap (λ (n : ℕ). BadInverse n) (same_pair p q _ x.1 y.1)
same_fault standard Controller list (BadInverse p) (OfTree g) x y = absurd (no_pair p _ x.1 y.1.good)
same_fault standard Controller list (OfTree f) (BadLength q) x y = absurd (y.0 x.1.whole)
same_fault standard Controller list (OfTree f) (BadInverse q) x y = absurd (no_pair q _ y.1 x.1.good)
same_fault standard Controller list (OfTree f) (OfTree g) x y = same_tree_fault standard Controller list f g x y
same_fault standard Core list (BadLength p) g x y = absurd x
same_fault standard Core list (BadInverse p) g x y = absurd x
same_fault standard Core list (OfTree f) (BadLength q) x y = absurd y
same_fault standard Core list (OfTree f) (BadInverse q) x y = absurd y
same_fault standard Core list (OfTree f) (OfTree g) x y = same_tree_fault standard Core list f g x y

-- ---- a fault has one text

none_there : (count at : ℕ) → (at ≡ 0) ⊎ (count < at) → 0 < at → at ≤ count → ⊥
none_there count at (inl e) some few = omega (arith, e, some)
none_there count at (inr over) some few = omega (arith, over, few)

same_before : (origin : Origin) (list : List ℕ) (at : ℕ) (p q : Option PhyPacket) →
    IsBefore origin list at p → IsBefore origin list at q → p ≡ q
same_before origin list at None None x y = refl
same_before origin list at None (Some q) x y = absurd (none_there (packet_count origin list) at x y.0 y.1)
same_before origin list at (Some p) None x y = absurd (none_there (packet_count origin list) at y x.0 x.1)
same_before origin list at (Some p) (Some q) x y =
    ap (λ (z : PhyPacket). Some z) (sym (packet-shown _ p x.2) ∙ packet-shown _ q y.2)

same_refusal : (standard : Standard) (origin : Origin) (front list : List ℕ) (f : CaptureFault) (a b : List ℕ) →
    IsRefusalShown standard origin front list f a → IsRefusalShown standard origin front list f b →
    a ≡ b
same_refusal standard origin front list f a b x y =
    x.text_is
    ∙ ap (λ (p : Option PhyPacket). refused front f ++ sentence standard origin list p f) (same_before origin list _ x.before y.before x.is_before y.is_before)
    ∙ sym y.text_is

-- ---- a tree has one text

same_body : (before : Option Tree) (t : Tree) (a b more too : List ℕ) → IsBody before t a more →
    IsBody before t b too → (a ≡ b) × (more ≡ too)
same_body before t a b more too (the_same d draw was e none) (the_same o again is f empty) = (e ∙ sym f, none ∙ sym empty)
same_body before t a b more too (the_same d draw was e none) (drawn again others f) =
    let other = others was.0 was.1 in
    absurd (other.2 (same_drawing was.0 other.0 d other.1 was.2 ∙ same_drawing t d b draw again))
same_body before t a b more too (drawn draw others f) (the_same d again was e none) =
    let other = others was.0 was.1 in
    absurd (other.2 (same_drawing was.0 other.0 d other.1 was.2 ∙ same_drawing t d a again draw))
same_body before t a b more too (drawn draw others e) (drawn again is f) = (same_drawing t a b draw again, e ∙ sym f)

same_tree_text : (front : List ℕ) (before : Option Tree) (t : Tree) (a b : List ℕ) →
    IsTreeShown front before t a → IsTreeShown front before t b → a ≡ b
same_tree_text front before t a b x y =
    let same = same_body before t x.body y.body x.by_node y.by_node x.is_body y.is_body in
    x.text_is
    ∙ ap (λ (body : List ℕ). front ++ (numbers t ++ (body ++ (changes before t ++ (x.by_node ++ initiators 0 (walk t)))))) same.0
    ∙ ap (λ (more : List ℕ). front ++ (numbers t ++ (y.body ++ (changes before t ++ (more ++ initiators 0 (walk t)))))) same.1
    ∙ sym y.text_is

-- ---- a list

pub same_list : (standard : Standard) (origin : Origin) (front list : List ℕ) (before : Option Tree) (a b : List ℕ) (h g : Option Tree) →
    IsListShown standard origin front list before a h →
    IsListShown standard origin front list before b g → (a ≡ b) × (h ≡ g)
same_list standard origin front list before a b h g (is_refused f un shown e) (is_refused k too again d) =
    let same : f ≡ k = same_fault standard origin list f k un too in
    (same_refusal standard origin front list k a b (subst (λ (x : CaptureFault). IsRefusalShown standard origin front list x a) same shown) again, e ∙ sym d)
same_list standard origin front list before a b h g (is_refused f un shown e) (is_heard t heard again d) =
    absurd (apart standard origin list t f heard un)
same_list standard origin front list before a b h g (is_heard t heard shown e) (is_refused f un again d) =
    absurd (apart standard origin list t f heard un)
same_list standard origin front list before a b h g (is_heard t heard shown e) (is_heard u too again d) =
    let same : t ≡ u = same_heard standard origin list t u heard too in (
      same_tree_text front before u a b (subst (λ (x : Tree). IsTreeShown front before x a) same shown) again,
      e ∙ ap (λ (x : Tree). Some x) same ∙ sym d,
    )

-- a list is told as one thing
pub same_told : (standard : Standard) (origin : Origin) (list : List ℕ) (a b : Members) (h g : Option Tree) →
    IsListTold standard origin list a h → IsListTold standard origin list b g → (a ≡ b) × (h ≡ g)
same_told standard origin list a b h g (told_refused f un shown e) (told_refused k too again d) =
    (shown ∙ ap (λ (x : CaptureFault). list_fault x) (same_fault standard origin list f k un too) ∙ sym again, e ∙ sym d)
same_told standard origin list a b h g (told_refused f un shown e) (told_heard t heard again d) =
    absurd (apart standard origin list t f heard un)
same_told standard origin list a b h g (told_heard t heard shown e) (told_refused f un again d) =
    absurd (apart standard origin list t f heard un)
same_told standard origin list a b h g (told_heard t heard shown e) (told_heard u too again d) =
    let same : t ≡ u = same_heard standard origin list t u heard too in
    (shown ∙ ap (λ (x : Tree). tree_members [] x) same ∙ sym again, e ∙ ap (λ (x : Tree). Some x) same ∙ sym d)

-- in one line
pub same_short : (standard : Standard) (origin : Origin) (front list : List ℕ) (a b : List ℕ) (h g : Option Tree) →
    IsListShort standard origin front list a h → IsListShort standard origin front list b g → (a ≡ b) × (h ≡ g)
same_short standard origin front list a b h g (short_refused f un shown e) (short_refused k too again d) =
    (shown ∙ ap (λ (x : CaptureFault). refused front x) (same_fault standard origin list f k un too) ∙ sym again, e ∙ sym d)
same_short standard origin front list a b h g (short_refused f un shown e) (short_heard t heard again d) =
    absurd (apart standard origin list t f heard un)
same_short standard origin front list a b h g (short_heard t heard shown e) (short_refused f un again d) =
    absurd (apart standard origin list t f heard un)
same_short standard origin front list a b h g (short_heard t heard shown e) (short_heard u too again d) =
    let same : t ≡ u = same_heard standard origin list t u heard too in
    (shown ∙ ap (λ (x : Tree). front ++ numbers x) same ∙ sym again, e ∙ ap (λ (x : Tree). Some x) same ∙ sym d)
