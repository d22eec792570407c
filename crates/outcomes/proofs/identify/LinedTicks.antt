-- Ticking keeps what is so of a child cable, at either end of it.
use Rattle.std.proofs.Common.{◌≡◌, ◌⊎◌, inl, inr, ℕ, ◌+◌, ◌≤◌, Bool, true, false, not, ◌&&◌, ◌==◌, List, [], ◌∷◌, ◌++◌, map, length, Option, Some, None, refl, sym, ◌∙◌, ap, subst, arith, append-nil, true≢false, if◌then◌else◌}
use Rattle.std.specs.Prelude.{nat_le}
use Rattle.std.proofs.lemmas.Bool.{eqb-true, and_parts, leb-true}
use Rattle.std.proofs.lemmas.List.{append_assoc}
use Rattle.outcomes.proofs.Common.{contrary, Phase, ParentShake, SelfIdent, Signal, NodeState, is_unnamed, asks, is_remaining, port_is, is_connected, is_port, lowest, sent_on, packet, with_port, hears_packets, may_name, own_group, node_count, Row, raise_timer, does, next_row, tick, IsValid, valid-raise_timer, on_every-port, sent_on-append, port_is-changed, leads_down, only, Chosen, chosen, is_ready, is_asked, is_named, IsMarked, silent, quads_in, kept, Mode, parent_mode, child_mode, mode_of, mode, fits, Line, Lined}
use Rattle.port_state.specs.declared.signal.Signal.TheVariants as signal
use Rattle.port_state.specs.Ports.{is_child}
use Rattle.port_state.specs.Sends.{packets_on_every, on_port}
use Rattle.port_state.specs.Row as row
use Rattle.port_state.specs.Machine.{on_beat}
use Rattle.port_state.proofs.Lemmas.{sound-tick, notices-port, packets-port}
use Rattle.cable_world.proofs.Lemmas.{turned}
use Rattle.outcomes.specs.Messages as mode
use Rattle.outcomes.proofs.identify.Messages.{silent-append, silent-quads, silent-fits, shut-silent, kept-room}
use Rattle.outcomes.proofs.identify.Lines.{asks-down, sends-all-down, sends-all-up, done-up}
use Rattle.outcomes.proofs.identify.Ports.{changed-other, changed-here, lowest-is, child-role, is-unnamed}
use Rattle.outcomes.proofs.identify.MarksKept.{hears-late, all-named, raised-marked}
use Rattle.outcomes.proofs.identify.LateRows.{LateRow, rests, asks_next, names_now, late-row}
use Rattle.outcomes.proofs.identify.Hearing.{parent-connected, only-silent}
use Rattle.outcomes.proofs.identify.LinedHears.{Waiting}

-- ---- what naming sends

pub on-port : (k : ℕ) (o : Option ℕ) (s : Signal) → sent_on k (on_port o s) ≡ only (is_port o k) s
on-port k None s = refl
on-port k (Some p) s = refl

names-sent :
    (x : NodeState) (k : ℕ) (quads : List ℕ) → is_connected x.view.ports k ≡ true →
    sent_on k (packets_on_every quads x.view.ports ++ on_port x.view.parent signal.Done)
    ≡ map packet quads ++ only (is_port x.view.parent k) signal.Done
names-sent x k quads c =
    sent_on-append k (packets_on_every quads x.view.ports) (on_port x.view.parent signal.Done)
    ∙ (rw (packets-port k quads x.view.ports, c, on-port k x.view.parent signal.Done) refl)

room :
    (x : NodeState) → may_name x ≡ true → kept x.list.items (own_group x (node_count x.list.items))
    ≡ x.list.items ++ own_group x (node_count x.list.items)
room x h =
    let id = node_count x.list.items in
    let b =
    and_parts (nat_le id 62) (nat_le (length x.list.items + length (own_group x id)) 252) h in
    kept-room x.list.items (own_group x id)
    (leb-true (length x.list.items + length (own_group x id)) 252 b.1)

fits-in :
    (x : NodeState) → may_name x ≡ true →
    length x.list.items + length (own_group x (node_count x.list.items)) ≤ 252
fits-in x h =
    let id = node_count x.list.items in
    let b =
    and_parts (nat_le id 62) (nat_le (length x.list.items + length (own_group x id)) 252) h in
    leb-true (length x.list.items + length (own_group x id)) 252 b.1

-- ---- above

module _
    (x : NodeState) (p : ℕ) (there : List Signal) (y : NodeState) (back : List Signal)
    (v : IsValid x) (h : hears_packets x.view.phase ≡ true) (d : leads_down x.view.ports p ≡ true)
    (l : Lined x p there y back) where
  above-same : Lined x p (there ++ []) y back
  above-same = subst (λ ss. Lined x p ss y back) (sym (append-nil there)) l

  above-asks :
      (port : ℕ) → port_is (λ q. q.asked) x.view.ports port ≡ false →
      Lined (with_port port (λ q. record q { asked = true }) x)
      p (there ++ only (port == p) signal.Grant) y back
  above-asks port none = rw named (go (port == p) refl)
    where
      named : is_named (with_port port (λ q. record q { asked = true }) x) p ≡ is_named x p
      named =
          port_is-changed (λ q. q.named) port (λ q. record q { asked = true }) (λ q. refl)
          x.view.ports p

      go :
          (b : Bool) → (port == p) ≡ b →
          Line (is_asked (with_port port (λ q. record q { asked = true }) x) p) (is_named x p)
          y.view.granted (is_ready y.view.phase)
          x.list.items y.list.items (there ++ only b signal.Grant) back
      go true e =
          let now : is_asked (with_port port (λ q. record q { asked = true }) x) p ≡ true =
          changed-here (λ q. q.asked) (λ q. q.child) port p (λ q. record q { asked = true })
          x.view.ports (λ q. refl) (turned port p ∙ e) d in
          rw now (asks-down (subst (λ i. is_asked x i ≡ false) (eqb-true port p e) none) l)
      go false e =
          let now : is_asked (with_port port (λ q. record q { asked = true }) x) p ≡ is_asked x p =
          changed-other (λ q. q.asked) port p (λ q. record q { asked = true }) x.view.ports
          (turned port p ∙ e) in
          rw now above-same

  above-names :
      lowest is_unnamed x.view.ports ≡ None → may_name x ≡ true → Line (is_asked x p) (is_named x p)
      y.view.granted (is_ready y.view.phase) (x.list.items ++ own_group x (node_count x.list.items))
      y.list.items
      (there ++ sent_on p (packets_on_every (own_group x (node_count x.list.items)) x.view.ports
      ++ on_port x.view.parent signal.Done)) back
  above-names low may =
      let quads = own_group x (node_count x.list.items) in
      let role = child-role x p v (hears-late x.view.phase h) d in
      let sends : sent_on p (packets_on_every quads x.view.ports ++ on_port x.view.parent
      signal.Done) ≡ map packet quads =
      names-sent x p quads role.1 ∙ ap (λ b. map packet quads ++ only b signal.Done) role.0
      ∙ append-nil (map packet quads) in
      let done : (is_asked x p && not (is_named x p)) ≡ false =
      none (is_asked x p) (is_named x p) (all-named x v (hears-late x.view.phase h) low p d) in
      rw (sends, ← room x may) (sends-all-down quads done (fits-in x may) l)
    where
      none : (a n : Bool) → n ≡ true → (a && not n) ≡ false
      none a n e = grind arith

  above-does :
      (coin : Bool) (r : Row) → LateRow x r →
      Lined (does coin r x).state p (there ++ sent_on p (does coin r x).sends) y back
  above-does coin r rests = above-same
  above-does coin r (asks_next k a) = above-asks k a.unasked
  above-does coin r (names_now n) = above-names n.last n.room

pub above-ticks :
    (coin : Bool) (x : NodeState) (p : ℕ) (there : List Signal) (y : NodeState) (back : List Signal)
    → IsValid x → hears_packets x.view.phase ≡ true → leads_down x.view.ports p ≡ true →
    Lined x p there y back →
    Lined (tick coin x).state p (there ++ sent_on p (tick coin x).sends) y back
unfolding tick
above-ticks coin x p there y back v h d l =
    above-does (raise_timer x) p there y back (valid-raise_timer x v) h d l coin (next_row x)
    (late-row x h)

-- ---- below

module _
    (y : NodeState) (q : ℕ) (back : List Signal) (x : NodeState) (p : ℕ) (there : List Signal)
    (v : IsValid y) (h : hears_packets y.view.phase ≡ true) (i : is_port y.view.parent q ≡ true)
    (l : Lined x p there y back) where
  below-same : Lined x p there y (back ++ [])
  below-same = subst (λ ss. Lined x p there y ss) (sym (append-nil back)) l

  below-asks :
      (port : ℕ) → leads_down y.view.ports port ≡ true →
      Lined x p there y (back ++ only (port == q) signal.Grant)
  below-asks port d = go (port == q) refl
    where
      go : (b : Bool) → (port == q) ≡ b → Lined x p there y (back ++ only b signal.Grant)
      go true e =
          contrary i (ap (is_port y.view.parent) (sym (eqb-true port q e))
          ∙ (child-role y port v (hears-late y.view.phase h) d).0)
      go false e = below-same

  below-names :
      y.view.phase ≡ SelfIdent → y.view.granted ≡ true → may_name y ≡ true → Line (is_asked x p)
      (is_named x p)
      y.view.granted true x.list.items (y.list.items ++ own_group y (node_count y.list.items)) there
      (back ++ sent_on q (packets_on_every (own_group y (node_count y.list.items)) y.view.ports
      ++ on_port y.view.parent signal.Done))
  below-names e g may =
      let quads = own_group y (node_count y.list.items) in
      let sends : sent_on q (packets_on_every quads y.view.ports ++ on_port y.view.parent
      signal.Done) ≡ map packet quads ++ signal.Done ∷ [] =
      names-sent y q quads (parent-connected y q v h i)
      ∙ ap (λ b. map packet quads ++ only b signal.Done) i in
      let r : is_ready y.view.phase ≡ false = ap is_ready e in
      rw (sends, g, ← room y may, ← append_assoc back (map packet quads) (signal.Done ∷ []))
      (done-up (sends-all-up quads (fits-in y may)
      (subst (λ b. Line (is_asked x p) (is_named x p) b false x.list.items y.list.items there back)
      g (subst (λ b. Line (is_asked x p) (is_named x p) y.view.granted b x.list.items y.list.items
      there back) r l))))

  below-does :
      (coin : Bool) (r : Row) → LateRow y r →
      Lined x p there (does coin r y).state (back ++ sent_on q (does coin r y).sends)
  below-does coin r rests = below-same
  below-does coin r (asks_next k a) =
      below-asks k (is-unnamed y.view.ports k (lowest-is is_unnamed y.view.ports k a.next))
  below-does coin r (names_now n) = below-names n.phase n.granted n.room

pub below-ticks :
    (coin : Bool) (y : NodeState) (q : ℕ) (back : List Signal) (x : NodeState) (p : ℕ)
    (there : List Signal) → IsValid y → hears_packets y.view.phase ≡ true →
    is_port y.view.parent q ≡ true →
    Lined x p there y back →
    Lined x p there (tick coin y).state (back ++ sent_on q (tick coin y).sends)
unfolding tick
below-ticks coin y q back x p there v h i l =
    below-does (raise_timer y) q back x p there (valid-raise_timer y v) h i l coin (next_row y)
    (late-row y h)

-- ---- a child that waits for its grant

waits-does :
    (coin : Bool) (r : Row) (y : NodeState) (q : ℕ) (back there : List Signal) →
    LateRow y r → Waiting y q back there →
    Waiting (does coin r y).state q (back ++ sent_on q (does coin r y).sends) there
waits-does coin r y q back there rests w = record {
  parent = w.parent;
  ungranted = w.ungranted;
  nothing = w.nothing;
  said = silent-append back [] w.said refl;
  comes = w.comes;
}
waits-does coin r y q back there (asks_next k a) w = contrary a.granted w.ungranted
waits-does coin r y q back there (names_now n) w = contrary n.granted w.ungranted

pub waits-ticks :
    (coin : Bool) (y : NodeState) (q : ℕ) (back there : List Signal) →
    hears_packets y.view.phase ≡ true → Waiting y q back there →
    Waiting (tick coin y).state q (back ++ sent_on q (tick coin y).sends) there
unfolding tick
waits-ticks coin y q back there h w =
    waits-does coin (next_row y) (raise_timer y) q back there (late-row y h)
    (record {
      parent = w.parent;
      ungranted = w.ungranted;
      nothing = w.nothing;
      said = w.said;
      comes = w.comes;
    })

-- ---- what may come to each port

module _
    (x : NodeState) (j : ℕ) (ss : List Signal) (v : IsValid x) (m : IsMarked x)
    (h : hears_packets x.view.phase ≡ true) (f : fits (mode x j) ss ≡ true) where
  front-asks :
      (port : ℕ) → leads_down x.view.ports port ≡ true → port_is (λ q. q.asked)
      x.view.ports port ≡ false → fits (mode (with_port port (λ q. record q { asked = true }) x) j)
      ss ≡ true
  front-asks port d none = rw named (go (port == j) refl)
    where
      named : is_named (with_port port (λ q. record q { asked = true }) x) j ≡ is_named x j
      named =
          port_is-changed (λ q. q.named) port (λ q. record q { asked = true }) (λ q. refl)
          x.view.ports j

      opens :
          (i : Bool) (n k : Mode) (a c : Bool) → i ≡ false → a ≡ false →
          fits (mode_of i n (child_mode a c)) ss ≡ true → fits (mode_of i n k) ss ≡ true
      opens true n k a c e u f = absurd (true≢false e)
      opens false n k true c e u f = absurd (true≢false u)
      opens false n k false c e u f = silent-fits k ss (shut-silent ss f)

      go :
          (b : Bool) → (port == j) ≡ b →
          fits (mode_of (is_port x.view.parent j)
          (parent_mode (is_ready x.view.phase) x.view.granted)
          (child_mode (is_asked (with_port port (λ q. record q { asked = true }) x) j)
          (is_named x j)))
          ss ≡ true
      go true e =
          let here : leads_down x.view.ports j ≡ true =
          ap (leads_down x.view.ports) (sym (eqb-true port j e)) ∙ d in
          opens (is_port x.view.parent j) (parent_mode (is_ready x.view.phase) x.view.granted)
          (child_mode (is_asked (with_port port (λ q. record q { asked = true }) x) j)
          (is_named x j)) (is_asked x j) (is_named x j)
          (child-role x j v (hears-late x.view.phase h) here).0
          (subst (λ i. is_asked x i ≡ false) (eqb-true port j e) none) f
      go false e =
          let now : is_asked (with_port port (λ q. record q { asked = true }) x) j ≡ is_asked x j =
          changed-other (λ q. q.asked) port j (λ q. record q { asked = true }) x.view.ports
          (turned port j ∙ e) in
          rw now f

  front-names :
      x.view.phase ≡ SelfIdent → x.view.granted ≡ true →
      fits (mode_of (is_port x.view.parent j) mode.packets
      (child_mode (is_asked x j) (is_named x j)))
      ss ≡ true
  front-names e g =
      go (is_port x.view.parent j) (is_ready x.view.phase) x.view.granted (ap is_ready e) g f
    where
      go :
          (i r b : Bool) → r ≡ false → b ≡ true →
          fits (mode_of i (parent_mode r b) (child_mode (is_asked x j) (is_named x j))) ss ≡ true →
          fits (mode_of i mode.packets (child_mode (is_asked x j) (is_named x j))) ss ≡ true
      go true true b er eb f = absurd (true≢false er)
      go true false false er eb f = absurd (true≢false (sym eb))
      go true false true er eb f = silent-fits mode.packets ss (shut-silent ss f)
      go false r b er eb f = f

  front-does :
      (coin : Bool) (r : Row) → LateRow x r → fits (mode (does coin r x).state j)
      ss ≡ true
  front-does coin r rests = f
  front-does coin r (asks_next k a) =
      front-asks k (is-unnamed x.view.ports k (lowest-is is_unnamed x.view.ports k a.next))
      a.unasked
  front-does coin r (names_now n) = front-names n.phase n.granted

pub front-ticks :
    (coin : Bool) (x : NodeState) (j : ℕ) (ss : List Signal) → IsValid x → IsMarked x →
    hears_packets x.view.phase ≡ true → fits (mode x j) ss ≡ true →
    fits (mode (tick coin x).state j) ss ≡ true
unfolding tick
front-ticks coin x j ss v m h f =
    front-does (raise_timer x) j ss (valid-raise_timer x v) (raised-marked x m) h f coin
    (next_row x) (late-row x h)

-- a node that names itself awaits nothing
pub names-silent :
    (x : NodeState) (j : ℕ) (ss : List Signal) → IsValid x → IsMarked x →
    hears_packets x.view.phase ≡ true → fits (mode x j) ss ≡ true → x.view.phase ≡ SelfIdent →
    x.view.granted ≡ true → lowest is_unnamed x.view.ports ≡ None → silent ss ≡ true
names-silent x j ss v m h f e g low =
    go (is_port x.view.parent j) (is_ready x.view.phase) x.view.granted (is_asked x j)
    (is_named x j)
    (ap is_ready e) g refl refl f
  where
    go :
        (i r b a n : Bool) → r ≡ false → b ≡ true → is_asked x j ≡ a → is_named x j ≡ n →
        fits (mode_of i (parent_mode r b) (child_mode a n)) ss ≡ true → silent ss ≡ true
    go true true b a n er eb ea en f = absurd (true≢false er)
    go true false false a n er eb ea en f = absurd (true≢false (sym eb))
    go true false true a n er eb ea en f = shut-silent ss f
    go false r b true true er eb ea en f = shut-silent ss f
    go false r b false n er eb ea en f = shut-silent ss f
    go false r b true false er eb ea en f =
        contrary (all-named x v (hears-late x.view.phase h) low j (m.asked j ea)) en

-- ---- the room in the list

module _
    (x : NodeState) (j : ℕ) (ss : List Signal) (v : IsValid x) (m : IsMarked x)
    (h : hears_packets x.view.phase ≡ true) (f : fits (mode x j) ss ≡ true)
    (free : length x.list.items + length (quads_in ss) ≤ 252) where
  room-does :
      (coin : Bool) (r : Row) → LateRow x r →
      length (does coin r x).state.list.items ≤ 252 →
      length (does coin r x).state.list.items + length (quads_in ss) ≤ 252
  room-does coin r rests l = free
  room-does coin r (asks_next k a) l = free
  room-does coin r (names_now n) l =
      omega (
        arith,
        l,
        ap length
            (silent-quads ss (names-silent x j ss v m h f n.phase n.granted n.last)),
      )

pub room-ticks :
    (coin : Bool) (x : NodeState) (j : ℕ) (ss : List Signal) → IsValid x → IsMarked x →
    hears_packets x.view.phase ≡ true → fits (mode x j) ss ≡ true →
    length x.list.items + length (quads_in ss) ≤ 252 →
    length (tick coin x).state.list.items + length (quads_in ss) ≤ 252
unfolding tick
room-ticks coin x j ss v m h f free =
    room-does (raise_timer x) j ss (valid-raise_timer x v) (raised-marked x m) h f free coin
    (next_row x) (late-row x h) (sound-tick coin x v).valid.bounded.list

-- ---- phases

-- a node stays in self identify and A0
pub ticks-on :
    (coin : Bool) (x : NodeState) → hears_packets x.view.phase ≡ true →
    hears_packets (tick coin x).state.view.phase ≡ true
unfolding tick
ticks-on coin x h = go (next_row x) (late-row x h)
  where
    go :
        (r : Row) → LateRow (raise_timer x) r →
        hears_packets (does coin r (raise_timer x)).state.view.phase ≡ true
    go r rests = h
    go r (asks_next k a) = h
    go r (names_now n) = refl

-- with its parent port
pub ticks-parent :
    (coin : Bool) (x : NodeState) → hears_packets x.view.phase ≡ true →
    (tick coin x).state.view.parent ≡ x.view.parent
unfolding tick
ticks-parent coin x h = go (next_row x) (late-row x h)
  where
    go :
        (r : Row) → LateRow (raise_timer x) r →
        (does coin r (raise_timer x)).state.view.parent ≡ x.view.parent
    go r rests = refl
    go r (asks_next k a) = refl
    go r (names_now n) = refl

-- and comes to self identify at the end of T2: the root, or where its parent port shows Child
pub record Arrives (x y : NodeState) : Type 0 where
  pub shakes : x.view.phase ≡ ParentShake
  pub identifies : y.view.phase ≡ SelfIdent
  pub parent : y.view.parent ≡ x.view.parent
  pub ports : y.view.ports ≡ x.view.ports
  pub list : y.list.items ≡ x.list.items
  pub how :
      (x.view.parent ≡ None)
      ⊎ ((y.view.granted ≡ x.view.granted)
      × ((k : ℕ) → is_port x.view.parent k ≡ true → port_is (λ q. is_child q.shown) x.view.ports k
      ≡ true))

pub arrives :
    (coin : Bool) (x : NodeState) → hears_packets x.view.phase ≡ false →
    hears_packets (tick coin x).state.view.phase ≡ true → Arrives x (tick coin x).state
unfolding tick
arrives coin x h n = go (next_row x) (chosen x.view.phase (raise_timer x) refl) n
  where
    on : {g : Phase} → x.view.phase ≡ g → hears_packets g ≡ true → ⊥
    on e t = contrary t (ap hears_packets (sym e) ∙ h)

    go :
        (r : Row) → Chosen r (raise_timer x) →
        hears_packets (does coin r (raise_timer x)).state.view.phase ≡ true →
        Arrives x (does coin r (raise_timer x)).state
    go row.none c n = contrary n h
    go row.times_out c n = contrary n h
    go row.ends_reset c n = absurd (true≢false (sym n))
    go row.begins_tree c n = absurd (true≢false (sym n))
    go row.takes_roles c n = absurd (true≢false (sym n))
    go row.awaits_parent c n = absurd (true≢false (sym n))
    go row.becomes_root c n = record {
      shakes = c.0;
      identifies = refl;
      parent = refl;
      ports = refl;
      list = refl;
      how = inl c.1;
    }
    go (row.finds_parent k) c n = record {
      shakes = c.0;
      identifies = refl;
      parent = refl;
      ports = refl;
      list = refl;
      how =
          inr (
            refl,
            λ j e. subst (λ i. port_is (λ q. is_child q.shown) x.view.ports i ≡ true)
                (eqb-true k j (sym (ap (λ o. is_port o j) c.1) ∙ e)) c.2,
          );
    }
    go (row.begins_contention k) c n = absurd (true≢false (sym n))
    go (row.takes_rival k) c n = absurd (true≢false (sym n))
    go (row.asks_again k) c n = absurd (true≢false (sym n))
    go (row.asks_child k) c n = absurd (on c refl)
    go row.names_itself c n = absurd (on c refl)

-- ---- a node that isn't in self identify or A0 sends no message

pub tick-silent :
    (coin : Bool) (x : NodeState) (k : ℕ) → hears_packets x.view.phase ≡ false →
    silent (sent_on k (tick coin x).sends) ≡ true
unfolding tick
tick-silent coin x k h = go (next_row x) (chosen x.view.phase (raise_timer x) refl)
  where
    on : {g : Phase} → x.view.phase ≡ g → hears_packets g ≡ true → ⊥
    on e t = contrary t (ap hears_packets (sym e) ∙ h)

    notice :
        (a l : Bool) →
        silent (if a then signal.Child ∷ [] else (if l then signal.Parent ∷ [] else [])) ≡ true
    notice true l = refl
    notice false true = refl
    notice false false = refl

    go :
        (r : Row) → Chosen r (raise_timer x) →
        silent (sent_on k (does coin r (raise_timer x)).sends) ≡ true
    go row.ends_reset c =
        ap silent (on_every-port k signal.Idle x.view.ports)
        ∙ only-silent (is_connected x.view.ports k) signal.Idle refl
    go row.takes_roles c =
        ap silent (notices-port k x.view.ports) ∙ notice (port_is asks x.view.ports k)
        (port_is is_remaining x.view.ports k)
    go (row.finds_parent p) c = only-silent (p == k) signal.Idle refl
    go (row.begins_contention p) c = only-silent (p == k) signal.Idle refl
    go (row.takes_rival p) c = only-silent (p == k) signal.Child refl
    go (row.asks_again p) c = only-silent (p == k) signal.Parent refl
    go (row.asks_child p) c = absurd (on c refl)
    go row.names_itself c = absurd (on c refl)
    go r c = refl

-- ---- or the clock misses the turn

pub beat-above-ticks :
    (b : Option Bool) (x : NodeState) (p : ℕ) (there : List Signal) (y : NodeState) (back : List Signal)
    → IsValid x → hears_packets x.view.phase ≡ true → leads_down x.view.ports p ≡ true →
    Lined x p there y back →
    Lined (on_beat b x).state p (there ++ sent_on p (on_beat b x).sends) y back
beat-above-ticks None x p there y back v h d l = subst (λ ss. Lined x p ss y back) (sym (append-nil there)) l
beat-above-ticks (Some coin) x p there y back v h d l = above-ticks coin x p there y back v h d l

pub beat-below-ticks :
    (b : Option Bool) (y : NodeState) (q : ℕ) (back : List Signal) (x : NodeState) (p : ℕ)
    (there : List Signal) → IsValid y → hears_packets y.view.phase ≡ true →
    is_port y.view.parent q ≡ true →
    Lined x p there y back →
    Lined x p there (on_beat b y).state (back ++ sent_on q (on_beat b y).sends)
beat-below-ticks None y q back x p there v h i l = subst (λ ss. Lined x p there y ss) (sym (append-nil back)) l
beat-below-ticks (Some coin) y q back x p there v h i l = below-ticks coin y q back x p there v h i l

pub beat-waits-ticks :
    (b : Option Bool) (y : NodeState) (q : ℕ) (back there : List Signal) →
    hears_packets y.view.phase ≡ true → Waiting y q back there →
    Waiting (on_beat b y).state q (back ++ sent_on q (on_beat b y).sends) there
beat-waits-ticks None y q back there h w = subst (λ ss. Waiting y q ss there) (sym (append-nil back)) w
beat-waits-ticks (Some coin) y q back there h w = waits-ticks coin y q back there h w

pub beat-front-ticks :
    (b : Option Bool) (x : NodeState) (j : ℕ) (ss : List Signal) → IsValid x → IsMarked x →
    hears_packets x.view.phase ≡ true → fits (mode x j) ss ≡ true →
    fits (mode (on_beat b x).state j) ss ≡ true
beat-front-ticks None x j ss v m h f = f
beat-front-ticks (Some coin) x j ss v m h f = front-ticks coin x j ss v m h f

pub beat-room-ticks :
    (b : Option Bool) (x : NodeState) (j : ℕ) (ss : List Signal) → IsValid x → IsMarked x →
    hears_packets x.view.phase ≡ true → fits (mode x j) ss ≡ true →
    length x.list.items + length (quads_in ss) ≤ 252 →
    length (on_beat b x).state.list.items + length (quads_in ss) ≤ 252
beat-room-ticks None x j ss v m h f free = free
beat-room-ticks (Some coin) x j ss v m h f free = room-ticks coin x j ss v m h f free

pub beat-ticks-on :
    (b : Option Bool) (x : NodeState) → hears_packets x.view.phase ≡ true →
    hears_packets (on_beat b x).state.view.phase ≡ true
beat-ticks-on None x h = h
beat-ticks-on (Some coin) x h = ticks-on coin x h

pub beat-ticks-parent :
    (b : Option Bool) (x : NodeState) → hears_packets x.view.phase ≡ true →
    (on_beat b x).state.view.parent ≡ x.view.parent
beat-ticks-parent None x h = refl
beat-ticks-parent (Some coin) x h = ticks-parent coin x h

pub beat-arrives :
    (b : Option Bool) (x : NodeState) → hears_packets x.view.phase ≡ false →
    hears_packets (on_beat b x).state.view.phase ≡ true → Arrives x (on_beat b x).state
beat-arrives None x h n = contrary n h
beat-arrives (Some coin) x h n = arrives coin x h n

pub beat-tick-silent :
    (b : Option Bool) (x : NodeState) (k : ℕ) → hears_packets x.view.phase ≡ false →
    silent (sent_on k (on_beat b x).sends) ≡ true
beat-tick-silent None x k h = refl
beat-tick-silent (Some coin) x k h = tick-silent coin x k h
