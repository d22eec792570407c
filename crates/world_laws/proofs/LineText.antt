-- Numbers and words are read back from a node's line.
use Rattle.std.proofs.Common.{◌≡◌, ℕ, ◌^◌, ◌<◌, ◌≤◌, Bool, true, false, Option, Some, None, List, [], ◌∷◌, ◌++◌, refl, sym, ◌∙◌, ap, subst, arith, append_assoc}
use Rattle.std.specs.Prelude.{codes, decimal}
use Rattle.std.proofs.lemmas.Fmt.{decimal_by_steps, decimal_injective}
use Rattle.std.proofs.lemmas.List.{append_cancel_left}
use Rattle.self_id.specs.declared.node.Attrs.{Attrs}
use Rattle.self_id.specs.declared.node.PortStatus.{PortStatus}
use Rattle.self_id.specs.declared.node.PortStatus.TheVariants.{Absent, Unplugged, Up, Down}
use Rattle.self_id.specs.Node.{Node, FitBits}
use Rattle.topology_stack.specs.Text.{field, truth, rest_of_attrs, attrs_text, sign, signs, node_line}
use Rattle.world_laws.specs.TreeText.{told_attrs, HasEnd, HaveEnds, FitsLine, SaysTheSame, LinesTellNodes}

-- ---- numbers

-- each is 48 or more, as digits are
abbrev Digits : List ℕ → Type 0
Digits [] = Unit {0}
Digits (d ∷ ds) = (48 ≤ d) × Digits ds

-- it begins below 48, as with a space or an end of line
abbrev pub Breaks : List ℕ → Type 0
Breaks [] = ⊥
Breaks (b ∷ bs) = b < 48

digits-append : (ds es : List ℕ) → Digits ds → Digits es → Digits (ds ++ es)
digits-append [] es a b = b
digits-append (d ∷ ds) es a b = (a.0, digits-append ds es a.1 b)

decimal-digits : (n : ℕ) → n < 2 ^ 64 → Digits (decimal n)
decimal-digits n small =
    decimal_by_steps (λ (m : ℕ) (ds : List ℕ). Digits ds) (λ m low. (omega arith, tt))
    (λ m ds high h. digits-append ds _ h (omega arith, tt)) n small

cut :
    (ds es xs ys : List ℕ) → Digits ds → Digits es → Breaks xs → Breaks ys → ds ++ xs ≡ es ++ ys →
    (ds ≡ es) × (xs ≡ ys)
cut [] [] xs ys a b p q e = (refl, e)
cut [] (d ∷ es) [] ys a b p q e = absurd p
cut [] (d ∷ es) (x ∷ xs) ys a b p q e = let same : x ≡ d = cc in absurd (omega (arith, same))
cut (d ∷ ds) [] xs [] a b p q e = absurd q
cut (d ∷ ds) [] xs (y ∷ ys) a b p q e = let same : y ≡ d = cc in absurd (omega (arith, same))
cut (d ∷ ds) (c ∷ es) xs ys a b p q e =
    let same : d ≡ c = cc in
    let rest : ds ++ xs ≡ es ++ ys = cc in
    let h = cut ds es xs ys a.1 b.1 p q rest in
    let tails : ds ≡ es = h.0 in
    ((cc), h.1)

-- a number is read back, and what stands behind it
number :
    (m n : ℕ) (xs ys : List ℕ) → m < 64 → n < 64 → Breaks xs → Breaks ys →
    decimal m ++ xs ≡ decimal n ++ ys → (m ≡ n) × (xs ≡ ys)
number m n xs ys a b p q e =
    let h = cut (decimal m) (decimal n) xs ys (decimal-digits m (omega arith)) (decimal-digits n (omega arith)) p q e in
    (decimal_injective m n (omega arith) (omega arith) h.0, h.1)

-- so behind a word
worded :
    (word : List ℕ) (m n : ℕ) (xs ys : List ℕ) → m < 64 → n < 64 → Breaks xs → Breaks ys →
    field word m ++ xs ≡ field word n ++ ys → (m ≡ n) × (xs ≡ ys)
unfolding field
worded word m n xs ys a b p q e =
    number m n xs ys a b p q
    (append_cancel_left word (decimal m ++ xs) (decimal n ++ ys) (sym (append_assoc word (decimal m) xs) ∙ e ∙ append_assoc word (decimal n) ys))

breaks : (word : List ℕ) (n : ℕ) (xs : List ℕ) → Breaks word → Breaks (field word n ++ xs)
unfolding field
breaks [] n xs h = absurd h
breaks (b ∷ bs) n xs h = h

-- words, each with its number
abbrev fields : List (List ℕ) → List ℕ → List ℕ
fields (w ∷ ws) (n ∷ ns) = field w n ++ fields ws ns
fields ws ns = []

-- as many as words, and no word goes on with a number before it
abbrev FitWords : List (List ℕ) → List ℕ → Type 0
FitWords [] [] = Unit {0}
FitWords (w ∷ ws) (n ∷ ns) = Breaks w × (n < 64) × FitWords ws ns
FitWords ws ns = ⊥

fields-break :
    (ws : List (List ℕ)) (ns xs : List ℕ) → FitWords ws ns → Breaks xs → Breaks (fields ws ns ++ xs)
fields-break [] [] xs a p = p
fields-break (w ∷ ws) (n ∷ ns) xs a p =
    subst Breaks (sym (append_assoc (field w n) (fields ws ns) xs)) (breaks w n (fields ws ns ++ xs) a.0)
fields-break [] (n ∷ ns) xs a p = absurd a
fields-break (w ∷ ws) [] xs a p = absurd a

-- numbers are read back
read-fields :
    (ws : List (List ℕ)) (ms ns xs ys : List ℕ) → FitWords ws ms → FitWords ws ns → Breaks xs → Breaks ys →
    fields ws ms ++ xs ≡ fields ws ns ++ ys → (ms ≡ ns) × (xs ≡ ys)
read-fields [] [] [] xs ys a b p q e = (refl, e)
read-fields (w ∷ ws) (m ∷ ms) (n ∷ ns) xs ys a b p q e =
    let one = worded w m n (fields ws ms ++ xs) (fields ws ns ++ ys) a.1 b.1 (fields-break ws ms xs a.2 p) (fields-break ws ns ys b.2 q)
    (sym (append_assoc (field w m) (fields ws ms) xs) ∙ e ∙ append_assoc (field w n) (fields ws ns) ys) in
    let more = read-fields ws ms ns xs ys a.2 b.2 p q one.1 in
    let head : m ≡ n = one.0 in
    let tail : ms ≡ ns = more.0 in
    ((cc), more.1)
read-fields [] (m ∷ ms) ns xs ys a b p q e = absurd a
read-fields [] [] (n ∷ ns) xs ys a b p q e = absurd b
read-fields (w ∷ ws) [] ns xs ys a b p q e = absurd a
read-fields (w ∷ ws) (m ∷ ms) [] xs ys a b p q e = absurd b

-- ---- slots

signs-break : (ps : List PortStatus) (es : List (Option ℕ)) (xs : List ℕ) → Breaks (signs ps es ++ 10 ∷ xs)
signs-break [] es xs = omega arith
signs-break (p ∷ ps) [] xs = omega arith
signs-break (Absent ∷ ps) (e ∷ es) xs = omega arith
signs-break (Unplugged ∷ ps) (e ∷ es) xs = omega arith
signs-break (Up ∷ ps) (None ∷ es) xs = omega arith
signs-break (Up ∷ ps) (Some id ∷ es) xs = omega arith
signs-break (Down ∷ ps) (None ∷ es) xs = omega arith
signs-break (Down ∷ ps) (Some id ∷ es) xs = omega arith

-- the second byte of a slot's sign
abbrev mark : PortStatus → ℕ
mark Absent = 45
mark Unplugged = 46
mark Up = 94
mark Down = 118

one-mark : (p q : PortStatus) → mark p ≡ mark q → p ≡ q
one-mark Absent Absent e = refl
one-mark Absent Unplugged e = absurd (omega (arith, e))
one-mark Absent Up e = absurd (omega (arith, e))
one-mark Absent Down e = absurd (omega (arith, e))
one-mark Unplugged Absent e = absurd (omega (arith, e))
one-mark Unplugged Unplugged e = refl
one-mark Unplugged Up e = absurd (omega (arith, e))
one-mark Unplugged Down e = absurd (omega (arith, e))
one-mark Up Absent e = absurd (omega (arith, e))
one-mark Up Unplugged e = absurd (omega (arith, e))
one-mark Up Up e = refl
one-mark Up Down e = absurd (omega (arith, e))
one-mark Down Absent e = absurd (omega (arith, e))
one-mark Down Unplugged e = absurd (omega (arith, e))
one-mark Down Up e = absurd (omega (arith, e))
one-mark Down Down e = refl

-- what stands behind it
abbrev behind : PortStatus → Option ℕ → List ℕ
behind Up (Some id) = decimal id
behind Down (Some id) = decimal id
behind p e = []

shape : (p : PortStatus) (e : Option ℕ) → HasEnd p e → sign p e ≡ 32 ∷ mark p ∷ behind p e
shape Absent None h = refl
shape Unplugged None h = refl
shape Up (Some id) h = refl
shape Down (Some id) h = refl
shape p e h = absurd h

-- the end of a slot is read back
one-end :
    (p : PortStatus) (e f : Option ℕ) (xs ys : List ℕ) → HasEnd p e → HasEnd p f → Breaks xs → Breaks ys →
    behind p e ++ xs ≡ behind p f ++ ys → (e ≡ f) × (xs ≡ ys)
one-end Absent None None xs ys a b c d e = (refl, e)
one-end Unplugged None None xs ys a b c d e = (refl, e)
one-end Up (Some m) (Some n) xs ys a b c d e =
    let h = number m n xs ys a b c d e in (ap (λ (i : ℕ). Some i) h.0, h.1)
one-end Down (Some m) (Some n) xs ys a b c d e =
    let h = number m n xs ys a b c d e in (ap (λ (i : ℕ). Some i) h.0, h.1)
one-end Absent (Some m) f xs ys a b c d e = absurd a
one-end Absent None (Some n) xs ys a b c d e = absurd b
one-end Unplugged (Some m) f xs ys a b c d e = absurd a
one-end Unplugged None (Some n) xs ys a b c d e = absurd b
one-end Up None f xs ys a b c d e = absurd a
one-end Up (Some m) None xs ys a b c d e = absurd b
one-end Down None f xs ys a b c d e = absurd a
one-end Down (Some m) None xs ys a b c d e = absurd b

record Slot (p q : PortStatus) (e f : Option ℕ) (xs ys : List ℕ) : Type 0 where
  port : p ≡ q
  end : e ≡ f
  rest : xs ≡ ys

one-slot :
    (p q : PortStatus) (e f : Option ℕ) (xs ys : List ℕ) → HasEnd p e → HasEnd q f → Breaks xs → Breaks ys →
    sign p e ++ xs ≡ sign q f ++ ys → Slot p q e f xs ys
one-slot p q e f xs ys a b c d same =
    let shaped : 32 ∷ mark p ∷ behind p e ++ xs ≡ 32 ∷ mark q ∷ behind q f ++ ys =
    ap (λ (l : List ℕ). l ++ xs) (sym (shape p e a)) ∙ same ∙ ap (λ (l : List ℕ). l ++ ys) (shape q f b) in
    let marks : mark p ≡ mark q = cc in
    let ports : p ≡ q = one-mark p q marks in
    let left : behind p e ++ xs ≡ behind q f ++ ys = cc in
    let h = one-end p e f xs ys a (subst (λ (r : PortStatus). HasEnd r f) (sym ports) b) c d
    (subst (λ (r : PortStatus). behind p e ++ xs ≡ behind r f ++ ys) (sym ports) left) in
    record { port = ports; end = h.0; rest = h.1 }

record Signs (ps qs : List PortStatus) (es fs : List (Option ℕ)) (xs ys : List ℕ) : Type 0 where
  ports : ps ≡ qs
  ends : es ≡ fs
  rest : xs ≡ ys

-- a slot's sign is no end of line
no-sign : (p : PortStatus) (e : Option ℕ) (xs ys : List ℕ) → HasEnd p e → 10 ∷ xs ≡ sign p e ++ ys → ⊥
no-sign p e xs ys h same =
    let shaped : 10 ∷ xs ≡ 32 ∷ mark p ∷ behind p e ++ ys = same ∙ ap (λ (l : List ℕ). l ++ ys) (shape p e h) in
    let byte : ◌≡◌ {A = ℕ} 10 32 = cc in
    omega (arith, byte)

read-signs :
    (ps qs : List PortStatus) (es fs : List (Option ℕ)) (xs ys : List ℕ) → HaveEnds ps es → HaveEnds qs fs →
    signs ps es ++ 10 ∷ xs ≡ signs qs fs ++ 10 ∷ ys → Signs ps qs es fs xs ys
read-signs [] [] [] [] xs ys a b e = record { ports = refl; ends = refl; rest = cc }
read-signs [] (q ∷ qs) [] (f ∷ fs) xs ys a b e =
    absurd (no-sign q f xs (signs qs fs ++ 10 ∷ ys) b.0 (e ∙ append_assoc (sign q f) (signs qs fs) (10 ∷ ys)))
read-signs (p ∷ ps) [] (e ∷ es) [] xs ys a b same =
    absurd (no-sign p e ys (signs ps es ++ 10 ∷ xs) a.0 (sym same ∙ append_assoc (sign p e) (signs ps es) (10 ∷ xs)))
read-signs (p ∷ ps) (q ∷ qs) (e ∷ es) (f ∷ fs) xs ys a b same =
    let one = one-slot p q e f (signs ps es ++ 10 ∷ xs) (signs qs fs ++ 10 ∷ ys) a.0 b.0 (signs-break ps es xs) (signs-break qs fs ys)
    (sym (append_assoc (sign p e) (signs ps es) (10 ∷ xs)) ∙ same ∙ append_assoc (sign q f) (signs qs fs) (10 ∷ ys)) in
    let more = read-signs ps qs es fs xs ys a.1 b.1 one.rest in
    let port : p ≡ q = one.port in
    let end : e ≡ f = one.end in
    let ports : ps ≡ qs = more.ports in
    let ends : es ≡ fs = more.ends in
    record { ports = cc; ends = cc; rest = more.rest }
read-signs [] qs (e ∷ es) fs xs ys a b same = absurd a
read-signs (p ∷ ps) qs [] fs xs ys a b same = absurd a
read-signs [] [] [] (f ∷ fs) xs ys a b same = absurd b
read-signs [] (q ∷ qs) [] [] xs ys a b same = absurd b
read-signs (p ∷ ps) [] (e ∷ es) (f ∷ fs) xs ys a b same = absurd b
read-signs (p ∷ ps) (q ∷ qs) (e ∷ es) [] xs ys a b same = absurd b

-- ---- the line of a node

abbrev attrs_words : List (List ℕ)
attrs_words =
    codes " link " ∷ codes " gap " ∷ codes " speed " ∷ codes " contender " ∷ codes " power "
    ∷ codes " initiated " ∷ []

abbrev attrs_numbers : Attrs → List ℕ
attrs_numbers a =
    truth a.link ∷ a.gap ∷ a.speed ∷ truth a.contender ∷ a.power ∷ truth a.initiated ∷ []

truth-fits : (b : Bool) → truth b < 64
truth-fits true = omega arith
truth-fits false = omega arith

one-truth : (a b : Bool) → truth a ≡ truth b → a ≡ b
one-truth true true e = refl
one-truth true false e = absurd (omega (arith, e))
one-truth false true e = absurd (omega (arith, e))
one-truth false false e = refl

attrs-fit : (a : Attrs) → FitBits a → FitWords attrs_words (attrs_numbers a)
attrs-fit a h = (
  omega arith,
  truth-fits a.link,
  (
    omega arith,
    omega (arith, h.gap),
    (
      omega arith,
      omega (arith, h.speed),
      (
        omega arith,
        truth-fits a.contender,
        (
          omega arith,
          omega (arith, h.power),
          (omega arith, truth-fits a.initiated, tt),
        ),
      ),
    ),
  ),
)

one-attrs : (a b : Attrs) → attrs_numbers a ≡ attrs_numbers b → told_attrs a ≡ told_attrs b
one-attrs a b e =
    let link : a.link ≡ b.link = one-truth a.link b.link (cc) in
    let gap : a.gap ≡ b.gap = cc in
    let speed : a.speed ≡ b.speed = cc in
    let contender : a.contender ≡ b.contender = one-truth a.contender b.contender (cc) in
    let power : a.power ≡ b.power = cc in
    let initiated : a.initiated ≡ b.initiated = one-truth a.initiated b.initiated (cc) in
    cc

-- its words and numbers, and then its slots
pub line-text :
    (id : ℕ) (n : Node) (es : List (Option ℕ)) (xs : List ℕ) →
    node_line id n es None ++ xs
    ≡ field (codes "node ") id
    ++ (fields attrs_words (attrs_numbers n.attrs) ++ (codes " ports" ++ (signs n.ports es ++ 10 ∷ xs)))
unfolding node_line attrs_text rest_of_attrs
line-text id n es xs = simp append_assoc

pub record Lines (id jd : ℕ) (n m : Node) (es fs : List (Option ℕ)) (xs ys : List ℕ) : Type 0 where
  pub says : SaysTheSame id jd n m es fs
  pub rest : xs ≡ ys

pub read-line :
    (id jd : ℕ) (n m : Node) (es fs : List (Option ℕ)) (xs ys : List ℕ) → FitsLine id n es → FitsLine jd m fs →
    node_line id n es None ++ xs ≡ node_line jd m fs None ++ ys → Lines id jd n m es fs xs ys
read-line id jd n m es fs xs ys a b same =
    let left : List ℕ = codes " ports" ++ (signs n.ports es ++ 10 ∷ xs) in
    let right : List ℕ = codes " ports" ++ (signs m.ports fs ++ 10 ∷ ys) in
    let fit = attrs-fit n.attrs a.attrs in
    let fits = attrs-fit m.attrs b.attrs in
    let of-id =
    worded (codes "node ") id jd (fields attrs_words (attrs_numbers n.attrs) ++ left) (fields attrs_words (attrs_numbers m.attrs) ++ right)
    a.id_fits b.id_fits (fields-break attrs_words (attrs_numbers n.attrs) left fit (omega arith))
    (fields-break attrs_words (attrs_numbers m.attrs) right fits (omega arith)) (sym (line-text id n es xs) ∙ same ∙ line-text jd m fs ys) in
    let of-attrs = read-fields attrs_words (attrs_numbers n.attrs) (attrs_numbers m.attrs) left right fit fits (omega arith) (omega arith) of-id.1 in
    let of-slots : Signs n.ports m.ports es fs xs ys =
    read-signs n.ports m.ports es fs xs ys a.slots b.slots
    (append_cancel_left (codes " ports") (signs n.ports es ++ 10 ∷ xs) (signs m.ports fs ++ 10 ∷ ys) of-attrs.1) in
    let attrs : told_attrs n.attrs ≡ told_attrs m.attrs = one-attrs n.attrs m.attrs of-attrs.0 in
    let ports : n.ports ≡ m.ports = of-slots.ports in
    record { says = record { ids = of-id.0; nodes = cc; far_ends = of-slots.ends }; rest = of-slots.rest }

pub lines-tell : LinesTellNodes
lines-tell id jd n m es fs a b same =
    (read-line id jd n m es fs [] [] a b (ap (λ (l : List ℕ). l ++ []) same)).says
