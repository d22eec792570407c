-- The quadlets that a line tells have 32 bits.
use Rattle.std.proofs.Common.{◌≡◌, ℕ, zero, suc, ◌^◌, ◌<◌, Bool, true, false, Option, Some, None, List, [], ◌∷◌, length, take, refl, ap, subst, arith}
use Rattle.std.specs.Prelude.{if◌then◌else◌, map, slice_index, codes}
use Rattle.std.specs.List.{slice_split}
use Rattle.log_line.specs.declared.line.Origin.{Origin}
use Rattle.log_line.specs.declared.line.Origin.TheVariants.{Controller, Core}
use Rattle.log_line.specs.declared.line.Reset.{Reset}
use Rattle.log_line.specs.declared.line.LogLine.{LogLine}
use Rattle.log_line.specs.declared.line.LogLine.TheVariants.{Other, Lost, Packet, OfReset}
use Rattle.line_words.specs.Digits.{of_digits}
use Rattle.line_words.proofs.Lemmas.{small_digits}
use Rattle.log_line.specs.Number.{number_of}
use Rattle.log_line.specs.Lists.{is_comma, before, numbers_of, between_commas, between_blanks, unclosed, within, spaced, list_in, bare}
use Rattle.log_line.specs.Words.{behind, to_field, words_of, value_of}
use Rattle.log_line.specs.Line.{named, is_lost, said_or, by_driver, list_field, reset_of, event, of_words, line_of}
use Rattle.log_line.specs.Said.{said_behind}
use Rattle.log_line.specs.Driver.{driver}
use Rattle.log_line.specs.Device.{device_of}
use Rattle.log_line.specs.Listing.{before_comma, digits_in, is_of_packet, is_of_reset, local_in, begins, packet, listed}

-- ---- the quadlets of a list

abbrev pub Fit : List ℕ → Type 0
Fit [] = Unit {0}
Fit (q ∷ quads) = (q < 2 ^ 32) × Fit quads

pub fit_at : (quads : List ℕ) (i : ℕ) → Fit quads → i < length quads → slice_index quads i < 2 ^ 32
fit_at [] i f lt = absurd (omega (arith, lt))
fit_at (q ∷ quads) zero f lt = f.0
fit_at (q ∷ quads) (suc i) f lt = fit_at quads i f.1 (omega (arith, lt))

either : (t : Bool) (x y : Option ℕ) (n : ℕ) → (x ≡ Some n → n < 2 ^ 32) →
    (y ≡ Some n → n < 2 ^ 32) → (if t then x else y) ≡ Some n → n < 2 ^ 32
either true x y n f g e = f e
either false x y n f g e = g e

number_fits : (word : List ℕ) (n : ℕ) → number_of word ≡ Some n → n < 2 ^ 32
unfolding number_of
number_fits word n e = either _ _ _ n (small_digits 16 8 n _) (small_digits 10 10 n word) e

numbers_fit : (words : List (List ℕ)) (ns : List ℕ) → numbers_of words ≡ Some ns → Fit ns
numbers_fit [] ns e = let same : [] ≡ ns = cc in subst Fit same tt
numbers_fit (w ∷ ws) ns e = go (number_of w) (numbers_of ws) refl refl (λ rest. numbers_fit ws rest) e
  where
    go : (a : Option ℕ) (b : Option (List ℕ)) → number_of w ≡ a → numbers_of ws ≡ b →
        ((rest : List ℕ) → numbers_of ws ≡ Some rest → Fit rest) → before a b ≡ Some ns → Fit ns
    go None b x y more f = absurd cc
    go (Some n) None x y more f = absurd cc
    go (Some n) (Some rest) x y more f =
        let same : n ∷ rest ≡ ns = cc in subst Fit same (number_fits w n x, more rest y)

within_fits : (text : Option (List ℕ)) (ns : List ℕ) → within text ≡ Some ns → Fit ns
unfolding between_commas
within_fits None ns e = absurd cc
within_fits (Some []) ns e = let same : [] ≡ ns = cc in subst Fit same tt
within_fits (Some (c ∷ text)) ns e = numbers_fit (map bare (slice_split is_comma (c ∷ text))) ns e

blanks_fit : (first : List ℕ) (words : List (List ℕ)) (ns : List ℕ) → between_blanks first words ≡ Some ns → Fit ns
blanks_fit [] words ns e = numbers_fit words ns e
blanks_fit (c ∷ first) words ns e = numbers_fit ((c ∷ first) ∷ words) ns e

list_fits : (first : List ℕ) (words : List (List ℕ)) (inside : Option (List ℕ)) (ns : List ℕ) →
    list_in first words inside ≡ Some ns → Fit ns
list_fits first words None ns e = blanks_fit first words ns e
list_fits first words (Some inside) ns e = within_fits (unclosed (spaced inside words)) ns e

field_fits : (value : Option (List ℕ × List (List ℕ))) (ns : List ℕ) → list_field value ≡ Some ns → Fit ns
field_fits None ns e = absurd cc
field_fits (Some value) ns e = list_fits value.0 (to_field value.1) (behind (codes "{") value.0) ns e

list_is : (origin : Origin) (time local card generation : Option ℕ) (bad : Option Bool) (list : Option (List ℕ)) (r : Reset) →
    reset_of origin time local card generation bad list ≡ OfReset r → list ≡ Some r.list
list_is origin time local None generation bad list r e = absurd cc
list_is origin time local (Some c) None bad list r e = absurd cc
list_is origin time local (Some c) (Some g) None list r e = absurd cc
list_is origin time local (Some c) (Some g) (Some b) None r e = absurd cc
list_is origin time local (Some c) (Some g) (Some b) (Some l) r e =
    let same : record { origin = origin; time = time; card = c; generation = g; local = local; is_error = b; list = l } ≡ r = cc in
    ap (λ (x : Reset). Some x.list) same

event_fits : (origin : Origin) (time : Option ℕ) (words : List (List ℕ)) (r : Reset) → event origin time words ≡ OfReset r →
    Fit r.list
event_fits Controller time words r e = field_fits (value_of (codes "packet_data=") words) r.list (list_is Controller time _ _ _ _ _ r e)
event_fits Core time words r e = field_fits (value_of (codes "self_ids=") words) r.list (list_is Core time _ _ _ _ _ r e)

-- no line of the driver's own is a reset
begins_apart : (time n a b c : Option ℕ) (r : Reset) → begins time n a b c ≡ OfReset r → ⊥
begins_apart time n None b c r e = absurd cc
begins_apart time n (Some x) None c r e = absurd cc
begins_apart time n (Some x) (Some y) None r e = absurd cc
begins_apart time n (Some x) (Some y) (Some z) r e = absurd cc

packet_apart : (a b : Option ℕ) (r : Reset) → packet a b ≡ OfReset r → ⊥
packet_apart None b r e = absurd cc
packet_apart (Some x) None r e = absurd cc
packet_apart (Some x) (Some y) r e = absurd cc

two_apart : (t u : Bool) (x y : LogLine) (r : Reset) → (x ≡ OfReset r → ⊥) → (y ≡ OfReset r → ⊥) →
    (if t then x else (if u then y else Other)) ≡ OfReset r → ⊥
two_apart true u x y r f g e = f e
two_apart false true x y r f g e = g e
two_apart false false x y r f g e = absurd cc

listed_apart : (time : Option ℕ) (words : List (List ℕ)) (r : Reset) → listed time words ≡ OfReset r → ⊥
listed_apart time [] r e = absurd cc
listed_apart time (v ∷ []) r e = absurd cc
listed_apart time (v ∷ a ∷ []) r e = absurd cc
listed_apart time (v ∷ a ∷ b ∷ []) r e = absurd cc
listed_apart time (v ∷ a ∷ b ∷ c ∷ []) r e = absurd cc
listed_apart time (v ∷ a ∷ b ∷ c ∷ d ∷ words) r e =
    two_apart (is_of_packet a b) (is_of_reset b c) (packet (device_of v) (digits_in 16 8 (before_comma c))) (begins time (local_in words) (device_of v) (of_digits 10 10 a) (digits_in 10 10 (before_comma d))) r
    (packet_apart (device_of v) (digits_in 16 8 (before_comma c)) r) (begins_apart time (local_in words) (device_of v) (of_digits 10 10 a) (digits_in 10 10 (before_comma d)) r) e

driver_apart : (d : Option (Option ℕ × List (List ℕ))) (r : Reset) → by_driver d ≡ OfReset r → ⊥
driver_apart None r e = absurd cc
driver_apart (Some d) r e = go (said_behind d.1) e
  where
    go : (text : Option (List ℕ)) → said_or (listed d.0 d.1) d.0 text ≡ OfReset r → ⊥
    go None f = listed_apart d.0 d.1 r f
    go (Some text) f = absurd cc

words_fit : (words : List (List ℕ)) (found : Option (Origin × Option ℕ × List (List ℕ))) (r : Reset) → of_words words found ≡ OfReset r →
    Fit r.list
words_fit words None r e = neither (is_lost words) e
  where
    neither : (v : Bool) → (if v then Lost else by_driver (driver None words)) ≡ OfReset r → Fit r.list
    neither true f = absurd cc
    neither false f = absurd (driver_apart (driver None words) r f)
words_fit words (Some x) r e = event_fits x.0 x.1 x.2 r e

pub line_fits : (line : List ℕ) (r : Reset) → line_of line ≡ OfReset r → Fit r.list
unfolding line_of
line_fits line r e = words_fit (words_of (take 65536 line)) (named None (words_of (take 65536 line))) r e

-- ---- the quadlet of a packet's line

in_text_fits : (base most : ℕ) (text : Option (List ℕ)) (n : ℕ) → digits_in base most text ≡ Some n → n < 2 ^ 32
in_text_fits base most None n e = absurd cc
in_text_fits base most (Some text) n e = small_digits base most n text e

quad_is : (a b : Option ℕ) (card quad : ℕ) → packet a b ≡ Packet card quad → b ≡ Some quad
quad_is None b card quad e = absurd cc
quad_is (Some x) None card quad e = absurd cc
quad_is (Some x) (Some y) card quad e = let same : y ≡ quad = cc in ap (λ (z : ℕ). Some z) same

begins_none : (time n a b c : Option ℕ) (card quad : ℕ) → begins time n a b c ≡ Packet card quad → ⊥
begins_none time n None b c card quad e = absurd cc
begins_none time n (Some x) None c card quad e = absurd cc
begins_none time n (Some x) (Some y) None card quad e = absurd cc
begins_none time n (Some x) (Some y) (Some z) card quad e = absurd cc

either_packet : (t u : Bool) (x y : LogLine) (card quad : ℕ) → (x ≡ Packet card quad → quad < 2 ^ 32) →
    (y ≡ Packet card quad → ⊥) → (if t then x else (if u then y else Other)) ≡ Packet card quad → quad < 2 ^ 32
either_packet true u x y card quad f g e = f e
either_packet false true x y card quad f g e = absurd (g e)
either_packet false false x y card quad f g e = absurd cc

listed_fits : (time : Option ℕ) (words : List (List ℕ)) (card quad : ℕ) → listed time words ≡ Packet card quad → quad < 2 ^ 32
listed_fits time [] card quad e = absurd cc
listed_fits time (v ∷ []) card quad e = absurd cc
listed_fits time (v ∷ a ∷ []) card quad e = absurd cc
listed_fits time (v ∷ a ∷ b ∷ []) card quad e = absurd cc
listed_fits time (v ∷ a ∷ b ∷ c ∷ []) card quad e = absurd cc
listed_fits time (v ∷ a ∷ b ∷ c ∷ d ∷ words) card quad e =
    either_packet (is_of_packet a b) (is_of_reset b c) (packet (device_of v) (digits_in 16 8 (before_comma c))) (begins time (local_in words) (device_of v) (of_digits 10 10 a) (digits_in 10 10 (before_comma d))) card quad
    (λ f. in_text_fits 16 8 (before_comma c) quad (quad_is (device_of v) (digits_in 16 8 (before_comma c)) card quad f)) (begins_none time (local_in words) (device_of v) (of_digits 10 10 a) (digits_in 10 10 (before_comma d)) card quad) e

driver_fits : (d : Option (Option ℕ × List (List ℕ))) (card quad : ℕ) → by_driver d ≡ Packet card quad → quad < 2 ^ 32
driver_fits None card quad e = absurd cc
driver_fits (Some d) card quad e = go (said_behind d.1) e
  where
    go : (text : Option (List ℕ)) → said_or (listed d.0 d.1) d.0 text ≡ Packet card quad → quad < 2 ^ 32
    go None f = listed_fits d.0 d.1 card quad f
    go (Some text) f = absurd cc

no_packet : (origin : Origin) (time n a b : Option ℕ) (c : Option Bool) (d : Option (List ℕ)) (card quad : ℕ) →
    reset_of origin time n a b c d ≡ Packet card quad → ⊥
no_packet origin time n None b c d card quad e = absurd cc
no_packet origin time n (Some x) None c d card quad e = absurd cc
no_packet origin time n (Some x) (Some y) None d card quad e = absurd cc
no_packet origin time n (Some x) (Some y) (Some z) None card quad e = absurd cc
no_packet origin time n (Some x) (Some y) (Some z) (Some l) card quad e = absurd cc

event_apart : (origin : Origin) (time : Option ℕ) (words : List (List ℕ)) (card quad : ℕ) →
    event origin time words ≡ Packet card quad → ⊥
event_apart Controller time words card quad e = no_packet Controller time _ _ _ _ _ card quad e
event_apart Core time words card quad e = no_packet Core time _ _ _ _ _ card quad e

packet_fits : (words : List (List ℕ)) (found : Option (Origin × Option ℕ × List (List ℕ))) (card quad : ℕ) →
    of_words words found ≡ Packet card quad → quad < 2 ^ 32
packet_fits words (Some x) card quad e = absurd (event_apart x.0 x.1 x.2 card quad e)
packet_fits words None card quad e = neither (is_lost words) e
  where
    neither : (v : Bool) → (if v then Lost else by_driver (driver None words)) ≡ Packet card quad → quad < 2 ^ 32
    neither true f = absurd cc
    neither false f = driver_fits (driver None words) card quad f

pub line_packet_fits : (line : List ℕ) (card quad : ℕ) → line_of line ≡ Packet card quad → quad < 2 ^ 32
unfolding line_of
line_packet_fits line card quad e = packet_fits (words_of (take 65536 line)) (named None (words_of (take 65536 line))) card quad e
