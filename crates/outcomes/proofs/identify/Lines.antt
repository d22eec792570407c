-- What becomes of a child cable as its ends hear and send.
use Rattle.std.proofs.Common.{◌≡◌, ℕ, ◌+◌, ◌≤◌, Bool, true, false, not, ◌&&◌, List, [], ◌∷◌, ◌++◌, map, length, length-append, if◌then◌else◌, refl, sym, ◌∙◌, ap, subst, append-nil, true≢false, arith}
use Rattle.std.specs.Prelude.{nat_lt}
use Rattle.std.proofs.Math.Bool.{or-false, or-true}
use Rattle.std.proofs.lemmas.Bool.{and_parts}
use Rattle.std.proofs.lemmas.List.{append_assoc}
use Rattle.outcomes.proofs.Common.{contrary, Signal, packet, with_packet, is_message, silent, quads_in, has_grant, has_done, kept, Mode, parent_mode, child_mode, allows, next, fits, Line}
use Rattle.port_state.specs.declared.signal.Signal.TheVariants as signal
use Rattle.outcomes.specs.Messages as mode
use Rattle.outcomes.specs.Identify.{speaks}
use Rattle.outcomes.proofs.identify.Messages.{grants, dones, level-has, has-append, silent-has, none-comes, level-quads, quads-append, kept-append, kept-room, silent-quads, silent-fits, shut-silent, nexts, fits-add, nexts-packets, nexts-grant, nexts-done}

-- ---- signals that change nothing

pub up-same :
    {a n g r : Bool} {above below : List ℕ} {down up now : List Signal} →
    quads_in now ≡ quads_in up → has_done now ≡ has_done up →
    (fits (child_mode a n) up ≡ true → fits (child_mode a n) now ≡ true) →
    Line a n g r above below down up → Line a n g r above below down now
up-same {a} {n} {g} {r} {above} {below} {down} {up} {now} q e f l = record {
  grants = l.grants;
  readies = l.readies;
  names = l.names;
  granting = l.granting;
  naming = e ∙ l.naming;
  agree = ap (kept above) q ∙ l.agree;
  no_down = l.no_down;
  no_up = λ s. q ∙ l.no_up s;
  fits_down = l.fits_down;
  fits_up = f l.fits_up;
  room_down = l.room_down;
  room_up = omega (arith, l.room_up, ap length q);
}

pub down-same :
    {a n g r : Bool} {above below : List ℕ} {down now up : List Signal} →
    quads_in now ≡ quads_in down → has_grant now ≡ has_grant down →
    (fits (parent_mode r g) down ≡ true → fits (parent_mode r g) now ≡ true) →
    Line a n g r above below down up → Line a n g r above below now up
down-same {a} {n} {g} {r} {above} {below} {down} {now} {up} q e f l = record {
  grants = l.grants;
  readies = l.readies;
  names = l.names;
  granting = e ∙ l.granting;
  naming = l.naming;
  agree = l.agree ∙ ap (kept below) (sym q);
  no_down = λ s. q ∙ l.no_down s;
  no_up = l.no_up;
  fits_down = f l.fits_down;
  fits_up = l.fits_up;
  room_down = omega (arith, l.room_down, ap length q);
  room_up = l.room_up;
}

-- a level is heard
pub level-fits :
    (m : Mode) (s : Signal) (ss : List Signal) → is_message s ≡ false → fits m (s ∷ ss) ≡ true →
    fits m ss ≡ true
level-fits m s ss h f =
    let b = and_parts (allows m s) (fits (next m s) ss) f in
    subst (λ k. fits k ss ≡ true) (same m s h) b.1
  where
    same : (m : Mode) (s : Signal) → is_message s ≡ false → next m s ≡ m
    same m s h = grind arith

pub up-level :
    {a n g r : Bool} {above below : List ℕ} {down up : List Signal} (s : Signal) →
    is_message s ≡ false → Line a n g r above below down (s ∷ up) → Line a n g r above below down up
up-level {a} {n} {g} {r} {above} {below} {down} {up} s h l =
    up-same (sym (level-quads s up h)) (sym (level-has dones s up h))
    (level-fits (child_mode a n) s up h) l

pub down-level :
    {a n g r : Bool} {above below : List ℕ} {down up : List Signal} (s : Signal) →
    is_message s ≡ false → Line a n g r above below (s ∷ down) up → Line a n g r above below down up
down-level {a} {n} {g} {r} {above} {below} {down} {up} s h l =
    down-same (sym (level-quads s down h)) (sym (level-has grants s down h))
    (level-fits (parent_mode r g) s down h) l

-- no Grant goes up, and no Done down
pub no-grant-up :
    {a n g r : Bool} {above below : List ℕ} {down up : List Signal} →
    Line a n g r above below down up → has_grant up ≡ false
no-grant-up {a} {n} {g} {r} {above} {below} {down} {up} l =
    none-comes grants (child_mode a n) up (grind arith) l.fits_up

pub no-done-down :
    {a n g r : Bool} {above below : List ℕ} {down up : List Signal} →
    Line a n g r above below down up → has_done down ≡ false
no-done-down {a} {n} {g} {r} {above} {below} {down} {up} l =
    none-comes dones (parent_mode r g) down (grind arith) l.fits_down

-- ---- hearing

pub packet-fits :
    (m : Mode) (quad : ℕ) (ss : List Signal) → fits m (signal.Packet quad ∷ ss) ≡ true →
    fits m ss ≡ true
packet-fits mode.shut quad ss h = absurd cc
packet-fits mode.packets quad ss h = h
packet-fits mode.grant quad ss h = h
packet-fits mode.done quad ss h = h

-- a packet that is heard takes the room that there was for it
pub packet-length : (quad : ℕ) (list : List ℕ) → length (with_packet quad list) ≤ length list + 1
packet-length quad list = go (nat_lt (length list) 252)
  where
    go : (b : Bool) → length (if b then list ++ quad ∷ [] else list) ≤ length list + 1
    go true = omega (arith, length-append list (quad ∷ []))
    go false = omega arith

one-heard :
    (list : List ℕ) (quad : ℕ) (quads : List ℕ) → length list + length (quad ∷ quads) ≤ 252 →
    length (with_packet quad list) + length quads ≤ 252
one-heard list quad quads h = omega (arith, packet-length quad list, h)

pub up-packet :
    {a n g r : Bool} {above below : List ℕ} {down up : List Signal} (quad : ℕ) →
    Line a n g r above below down (signal.Packet quad ∷ up) → Line a n g r (with_packet quad above)
    below down up
up-packet {a} {n} {g} {r} {above} {below} {down} {up} quad l = record {
  grants = l.grants;
  readies = l.readies;
  names = l.names;
  granting = l.granting;
  naming = l.naming;
  agree = l.agree;
  no_down = l.no_down;
  no_up = λ s. let none : quad ∷ quads_in up ≡ [] = l.no_up s in absurd cc;
  fits_down = l.fits_down;
  fits_up = packet-fits (child_mode a n) quad up l.fits_up;
  room_down = l.room_down;
  room_up = one-heard above quad (quads_in up) l.room_up;
}

pub down-packet :
    {a n g r : Bool} {above below : List ℕ} {down up : List Signal} (quad : ℕ) →
    Line a n g r above below (signal.Packet quad ∷ down) up →
    Line a n g r above (with_packet quad below) down up
down-packet {a} {n} {g} {r} {above} {below} {down} {up} quad l = record {
  grants = l.grants;
  readies = l.readies;
  names = l.names;
  granting = l.granting;
  naming = l.naming;
  agree = l.agree;
  no_down = λ s. let none : quad ∷ quads_in down ≡ [] = l.no_down s in absurd cc;
  no_up = l.no_up;
  fits_down = packet-fits (parent_mode r g) quad down l.fits_down;
  fits_up = l.fits_up;
  room_down = one-heard below quad (quads_in down) l.room_down;
  room_up = l.room_up;
}

-- Done: the child was asked and isn't named, and is in A0
pub up-done :
    {a n g r : Bool} {above below : List ℕ} {down up : List Signal} →
    Line a n g r above below down (signal.Done ∷ up) → Line a true g r above below down up
up-done {a} {n} {g} {r} {above} {below} {down} {up} l = go a n g r l
  where
    go :
        (a n g r : Bool) → Line a n g r above below down (signal.Done ∷ up) →
        Line a true g r above below down up
    go true false true true l =
        let s : silent up ≡ true = shut-silent up l.fits_up in
        record {
          grants = l.grants;
          readies = l.readies;
          names = λ h. refl;
          granting = l.granting;
          naming = silent-has dones up s;
          agree = l.agree;
          no_down = λ h. absurd (true≢false (sym h));
          no_up = λ h. silent-quads up s;
          fits_down = l.fits_down;
          fits_up = l.fits_up;
          room_down = l.room_down;
          room_up = l.room_up;
        }
    go false n g r l = absurd (true≢false (sym l.fits_up))
    go true true g r l = absurd (true≢false (sym l.fits_up))
    go true false g false l = absurd (true≢false l.naming)
    go true false false true l = absurd (true≢false (sym (l.readies refl)))

-- Grant: the child isn't granted, and was asked
pub down-grant :
    {a n g r : Bool} {above below : List ℕ} {down up : List Signal} →
    Line a n g r above below (signal.Grant ∷ down) up → Line a n true r above below down up
down-grant {a} {n} {g} {r} {above} {below} {down} {up} l = go a n g r l
  where
    go :
        (a n g r : Bool) → Line a n g r above below (signal.Grant ∷ down) up →
        Line a n true r above below down up
    go true false false false l =
        let s : silent down ≡ true = shut-silent down l.fits_down in
        record {
          grants = λ h. refl;
          readies = λ h. refl;
          names = l.names;
          granting = silent-has grants down s;
          naming = l.naming;
          agree = l.agree;
          no_down = λ h. silent-quads down s;
          no_up = λ h. absurd (true≢false h);
          fits_down = l.fits_down;
          fits_up = l.fits_up;
          room_down = l.room_down;
          room_up = l.room_up;
        }
    go a n g true l = absurd (true≢false (sym l.fits_down))
    go a n true false l = absurd (true≢false (sym l.fits_down))
    go a true false false l = absurd (true≢false (sym (l.names refl)))
    go false false false false l = absurd (true≢false l.granting)

-- ---- sending

-- what was agreed with nothing under way against it is so with one packet more
one-more :
    (above below quads : List ℕ) (quad : ℕ) (others : List ℕ) → others ≡ [] →
    kept above others ≡ kept below quads → kept (with_packet quad above)
    others ≡ kept below (quads ++ quad ∷ [])
one-more above below quads quad others none e =
    ap (kept (with_packet quad above)) none ∙ ap (with_packet quad) (ap (kept above) (sym none) ∙ e)
    ∙ sym (kept-append below quads (quad ∷ []))

-- and there is room for it
one-sent :
    (above below quads others : List ℕ) (quad : ℕ) (way : List Signal) → others ≡ [] →
    kept above others ≡ kept below quads → length below + length quads ≤ 252 →
    quads_in way ≡ quads → length above + 1 ≤ 252 →
    length below + length (quads_in (way ++ signal.Packet quad ∷ [])) ≤ 252
one-sent above below quads others quad way none e room is free =
    let same : above ≡ below ++ quads =
    ap (kept above) (sym none) ∙ e ∙ kept-room below quads room in
    omega (
      arith,
      ap length same,
      length-append below quads,
      ap length (quads-append way (signal.Packet quad ∷ [])),
      length-append (quads_in way) (quad ∷ []),
      ap length is,
      free,
    )

-- the parent sends a packet, where it awaits nothing from the child
pub sends-down :
    {a n g r : Bool} {above below : List ℕ} {down up : List Signal} (quad : ℕ) → (a && not n)
    ≡ false → length above + 1 ≤ 252 → Line a n g r above below down up →
    Line a n g r (with_packet quad above) below (down ++ signal.Packet quad ∷ []) up
sends-down {a} {n} {g} {r} {above} {below} {down} {up} quad h free l = record {
  grants = l.grants;
  readies = l.readies;
  names = l.names;
  granting =
      has-append grants down (signal.Packet quad ∷ []) ∙ or-false (has_grant down) ∙ l.granting;
  naming = l.naming;
  agree =
      one-more above below (quads_in down) quad (quads_in up) (l.no_up (quiet a n g h l.grants))
      l.agree
      ∙ ap (kept below) (sym (quads-append down (signal.Packet quad ∷ [])));
  no_down = λ s. contrary s (quiet a n g h l.grants);
  no_up = l.no_up;
  fits_down =
      fits-add (parent_mode r g) down (signal.Packet quad ∷ []) l.fits_down (allowed a n g r h l);
  fits_up = l.fits_up;
  room_down =
      one-sent above below (quads_in down) (quads_in up) quad down
      (l.no_up (quiet a n g h l.grants)) l.agree l.room_down refl free;
  room_up =
      omega (arith, packet-length quad above, free, ap length (l.no_up (quiet a n g h l.grants)));
}
  where
    quiet : (a n g : Bool) → (a && not n) ≡ false → (g ≡ true → a ≡ true) → speaks g n ≡ false
    quiet a n false h f = refl
    quiet a n true h f = subst (λ b. (b && not n) ≡ false) (f refl) h

    allowed :
        (a n g r : Bool) → (a && not n) ≡ false → Line a n g r above below down up →
        fits (nexts (parent_mode r g) down) (signal.Packet quad ∷ []) ≡ true
    allowed a n g true h l = rw (nexts-packets down) refl
    allowed a true true false h l = absurd (true≢false (sym (l.names refl)))
    allowed true false true false h l = absurd (true≢false h)
    allowed false false true false h l = absurd (true≢false (sym (l.grants refl)))
    allowed a true false false h l = absurd (true≢false (sym (l.names refl)))
    allowed true false false false h l = absurd (true≢false h)
    allowed false false false false h l = rw (nexts-grant down l.granting) refl

pub sends-all-down :
    (quads : List ℕ) {a n g r : Bool} {above below : List ℕ} {down up : List Signal} → (a && not n)
    ≡ false → length above + length quads ≤ 252 → Line a n g r above below down up →
    Line a n g r (kept above quads) below (down ++ map packet quads) up
sends-all-down [] {a} {n} {g} {r} {above} {below} {down} {up} h free l =
    subst (λ ss. Line a n g r above below ss up) (sym (append-nil down)) l
sends-all-down (q ∷ qs) {a} {n} {g} {r} {above} {below} {down} {up} h free l =
    subst (λ ss. Line a n g r (kept (with_packet q above) qs) below ss up)
    (append_assoc down (packet q ∷ []) (map packet qs))
    (sends-all-down qs h (one-heard above q qs free) (sends-down q h (omega (arith, free)) l))

-- it asks the child
pub asks-down :
    {a n g r : Bool} {above below : List ℕ} {down up : List Signal} → a ≡ false →
    Line a n g r above below down up → Line true n g r above below (down ++ signal.Grant ∷ []) up
asks-down {a} {n} {g} {r} {above} {below} {down} {up} h l = go a n g r h l
  where
    go :
        (a n g r : Bool) → a ≡ false → Line a n g r above below down up →
        Line true n g r above below (down ++ signal.Grant ∷ []) up
    go true n g r h l = absurd (true≢false h)
    go false n true r h l = absurd (true≢false (sym (l.grants refl)))
    go false n false true h l = absurd (true≢false (sym (l.readies refl)))
    go false true false false h l = absurd (true≢false (sym (l.names refl)))
    go false false false false h l = record {
      grants = λ e. refl;
      readies = l.readies;
      names = l.names;
      granting = has-append grants down (signal.Grant ∷ []) ∙ or-true (has_grant down);
      naming = l.naming;
      agree =
          l.agree ∙ ap (kept below)
          (sym (append-nil (quads_in down)) ∙ sym (quads-append down (signal.Grant ∷ [])));
      no_down = λ e. absurd (true≢false (sym e));
      no_up = l.no_up;
      fits_down =
          fits-add mode.grant down (signal.Grant ∷ []) l.fits_down
          (rw (nexts-grant down l.granting) refl);
      fits_up = silent-fits mode.done up (shut-silent up l.fits_up);
      room_down =
          omega (
            arith,
            l.room_down,
            ap length (quads-append down (signal.Grant ∷ []) ∙ append-nil (quads_in down)),
          );
      room_up = l.room_up;
    }

-- a granted child sends a packet
pub sends-up :
    {a n : Bool} {above below : List ℕ} {down up : List Signal} (quad : ℕ) →
    length below + 1 ≤ 252 → Line a n true false above below down up →
    Line a n true false above (with_packet quad below) down (up ++ signal.Packet quad ∷ [])
sends-up {a} {n} {above} {below} {down} {up} quad free l = go a n l
  where
    go :
        (a n : Bool) → Line a n true false above below down up →
        Line a n true false above (with_packet quad below) down (up ++ signal.Packet quad ∷ [])
    go false n l = absurd (true≢false (sym (l.grants refl)))
    go true true l = absurd (true≢false (sym (l.names refl)))
    go true false l = record {
      grants = l.grants;
      readies = l.readies;
      names = l.names;
      granting = l.granting;
      naming = has-append dones up (signal.Packet quad ∷ []) ∙ or-false (has_done up) ∙ l.naming;
      agree =
          ap (kept above) (quads-append up (signal.Packet quad ∷ []))
          ∙ sym (one-more below above (quads_in up) quad (quads_in down) (l.no_down refl)
          (sym l.agree));
      no_down = l.no_down;
      no_up = λ e. absurd (true≢false e);
      fits_down = l.fits_down;
      fits_up =
          fits-add mode.done up (signal.Packet quad ∷ []) l.fits_up
          (rw (nexts-done up l.naming) refl);
      room_down = omega (arith, packet-length quad below, free, ap length (l.no_down refl));
      room_up =
          one-sent below above (quads_in up) (quads_in down) quad up (l.no_down refl) (sym l.agree)
          l.room_up refl free;
    }

pub sends-all-up :
    (quads : List ℕ) {a n : Bool} {above below : List ℕ} {down up : List Signal} →
    length below + length quads ≤ 252 → Line a n true false above below down up →
    Line a n true false above (kept below quads) down (up ++ map packet quads)
sends-all-up [] {a} {n} {above} {below} {down} {up} free l =
    subst (λ ss. Line a n true false above below down ss) (sym (append-nil up)) l
sends-all-up (q ∷ qs) {a} {n} {above} {below} {down} {up} free l =
    subst (λ ss. Line a n true false above (kept (with_packet q below) qs) down ss)
    (append_assoc up (packet q ∷ []) (map packet qs))
    (sends-all-up qs (one-heard below q qs free) (sends-up q (omega (arith, free)) l))

-- and Done
pub done-up :
    {a n : Bool} {above below : List ℕ} {down up : List Signal} →
    Line a n true false above below down up →
    Line a n true true above below down (up ++ signal.Done ∷ [])
done-up {a} {n} {above} {below} {down} {up} l = go a n l
  where
    go :
        (a n : Bool) → Line a n true false above below down up →
        Line a n true true above below down (up ++ signal.Done ∷ [])
    go false n l = absurd (true≢false (sym (l.grants refl)))
    go true true l = absurd (true≢false (sym (l.names refl)))
    go true false l = record {
      grants = l.grants;
      readies = λ e. refl;
      names = λ e. refl;
      granting = l.granting;
      naming = has-append dones up (signal.Done ∷ []) ∙ or-true (has_done up);
      agree =
          ap (kept above) (quads-append up (signal.Done ∷ []) ∙ append-nil (quads_in up)) ∙ l.agree;
      no_down = l.no_down;
      no_up = λ e. absurd (true≢false e);
      fits_down = silent-fits mode.packets down (shut-silent down l.fits_down);
      fits_up =
          fits-add mode.done up (signal.Done ∷ []) l.fits_up (rw (nexts-done up l.naming) refl);
      room_down = l.room_down;
      room_up =
          omega (
            arith,
            l.room_up,
            ap length (quads-append up (signal.Done ∷ []) ∙ append-nil (quads_in up)),
          );
    }

-- ---- the beginning

pub begins :
    (down up : List Signal) → silent down ≡ true → silent up ≡ true →
    Line false false false false [] [] down up
begins down up h g = record {
  grants = λ e. absurd (true≢false (sym e));
  readies = λ e. absurd (true≢false (sym e));
  names = λ e. absurd (true≢false (sym e));
  granting = silent-has grants down h;
  naming = silent-has dones up g;
  agree = ap (kept []) (silent-quads up g) ∙ ap (kept []) (sym (silent-quads down h));
  no_down = λ e. absurd (true≢false (sym e));
  no_up = λ e. silent-quads up g;
  fits_down = silent-fits mode.grant down h;
  fits_up = silent-fits mode.shut up g;
  room_down = omega (arith, ap length (silent-quads down h));
  room_up = omega (arith, ap length (silent-quads up g));
}
