-- States and signals by their words.
use Rattle.std.proofs.Common.{◌≡◌, ℕ, ◌+◌, ◌<◌, true, false, List, ◌++◌, length, drop, get_or, append_assoc, refl, subst, arith}
use Rattle.std.specs.Prelude.{◌==◌, if◌then◌else◌, codes, decimal, Option, Some, None, IfSome, IsSome, IsSomeAnd}
use Rattle.trace_event.specs.declared.happenings.SignalRead.{SignalRead}
use Rattle.port_state.specs.declared.signal.Phase.{Phase}
use Rattle.port_state.specs.declared.signal.Phase.TheVariants.{ResetStart, ResetWait, TreeStart, ChildShake, ParentShake, Contend, SelfIdent, Ready}
use Rattle.port_state.specs.declared.signal.Signal.{Signal}
use Rattle.port_state.specs.declared.signal.Signal.TheVariants.{Reset, Idle, Parent, Child, Grant, Packet, Done}
use Rattle.trace_event.specs.Stands.{Stands}
use Rattle.trace_event.specs.Event.{choice, coin_digit, numbered, IsShort, state_words, signal_words}
use Rattle.trace_event.specs.codings.Follows.{EndsNumber, EndsName}
use Rattle.trace_event.proofs.Chain.{behind, go_on}
use Rattle.trace_event.proofs.Ends.{first_digit}
use Rattle.std.specs.Char.{is_ascii_digit}

-- the words of each state are as long
length-state_words : (p : Phase) → length (state_words p) ≡ 10
length-state_words ResetStart = refl
length-state_words ResetWait = refl
length-state_words TreeStart = refl
length-state_words ChildShake = refl
length-state_words ParentShake = refl
length-state_words Contend = refl
length-state_words SelfIdent = refl
length-state_words Ready = refl

-- so whichever is found, the same stands behind it
pub behind_state : {text : List ℕ} {at mid next : ℕ} (found phase : Phase) (w : List ℕ) →
    Stands text at (state_words found) mid → Stands text at (state_words phase ++ w) next → Stands text mid w next
behind_state {text} {at} {mid} {next} found phase w first whole =
    let same : at + length (state_words phase) ≡ mid = omega (arith, first.next_is, length-state_words found, length-state_words phase) in
    subst (λ (k : ℕ). Stands text k w next) same (behind (state_words phase) w whole)

-- ---- signals

-- how long the words of a signal are whose fifth byte is this
abbrev long : ℕ → ℕ
long c =
    if c == 95 then 10 else if c == 69 then 5 else if c == 80 then 17 else if c == 67 then 16
    else if c == 71 then 9 else if c == 73 then 14 else 16

length-signal_words : (s : Signal) (rest : List ℕ) → length (signal_words s) ≡ long (get_or (signal_words s ++ rest) 4 0)
length-signal_words Reset rest = refl
length-signal_words Idle rest = refl
length-signal_words Parent rest = refl
length-signal_words Child rest = refl
length-signal_words Grant rest = refl
length-signal_words (Packet quad) rest = refl
length-signal_words Done rest = refl

pub behind_signal : {text : List ℕ} {at mid next : ℕ} (found signal : Signal) (w : List ℕ) →
    Stands text at (signal_words found) mid → Stands text at (signal_words signal ++ w) next → Stands text mid w next
behind_signal {text} {at} {mid} {next} found signal w first whole =
    let one : length (signal_words found) ≡ long (get_or (drop at text) 4 0) =
    rw first.is (length-signal_words found (drop mid text)) in
    let other : length (signal_words signal) ≡ long (get_or (drop at text) 4 0) =
    rw (whole.is, append_assoc (signal_words signal) w (drop next text)) (length-signal_words signal (w ++ drop next text)) in
    let same : at + length (signal_words signal) ≡ mid = omega (arith, first.next_is, one, other) in
    subst (λ (k : ℕ). Stands text k w next) same (behind (signal_words signal) w whole)

-- ---- what a word begins with

pub begins_choice : (o : Option ℕ) (v w : List ℕ) → EndsName ((choice o ++ v) ++ w)
begins_choice None v w = refl
begins_choice (Some n) v w = refl

pub no_digit_choice : (o : Option ℕ) (w : List ℕ) → EndsNumber (choice o ++ w)
no_digit_choice None w = refl
no_digit_choice (Some n) w = refl

pub begins_state : (p : Phase) (w : List ℕ) → EndsName (state_words p ++ w)
begins_state ResetStart w = refl
begins_state ResetWait w = refl
begins_state TreeStart w = refl
begins_state ChildShake w = refl
begins_state ParentShake w = refl
begins_state Contend w = refl
begins_state SelfIdent w = refl
begins_state Ready w = refl

-- ---- a choice

-- behind ` -` stands what stands behind the choice of none
pub behind_dash : {text : List ℕ} {at mid next : ℕ} (o : Option ℕ) (w : List ℕ) → Stands text at (codes " -") mid →
    Stands text at (choice o ++ w) next → IsShort o → Stands text mid w next
behind_dash {text} {at} {mid} {next} None w first whole short = go_on w first whole
behind_dash {text} {at} {mid} {next} (Some n) w first whole short =
    let dash : get_or (drop at text) 1 0 ≡ 45 = rw first.is refl in
    let digit : get_or (drop at text) 1 0 ≡ get_or (decimal n ++ (w ++ drop next text)) 0 0 =
    rw (whole.is, append_assoc (choice (Some n)) w (drop next text)) refl in
    let stop : is_ascii_digit (get_or (drop at text) 1 0) ≡ false = rw dash refl in
    let yes : is_ascii_digit (get_or (drop at text) 1 0) ≡ true = rw digit (first_digit n (w ++ drop next text) short) in
    absurd cc

-- behind a coin that isn't shown stop number stands
pub no_coin : {text : List ℕ} {at mid next : ℕ} (n : ℕ) (w : List ℕ) → n < 4294967296 →
    Stands text at (numbered (codes " ") n) mid → Stands text at (codes " wait " ++ w) next → ⊥
no_coin {text} {at} {mid} {next} n w fits first whole =
    let wait : get_or (drop at text) 1 0 ≡ 119 = rw whole.is refl in
    let digit : get_or (drop at text) 1 0 ≡ get_or (decimal n ++ drop mid text) 0 0 = rw first.is refl in
    let stop : is_ascii_digit (get_or (drop at text) 1 0) ≡ false = rw wait refl in
    let yes : is_ascii_digit (get_or (drop at text) 1 0) ≡ true = rw digit (first_digit n (drop mid text) fits) in
    absurd cc

-- behind a number stands what stands behind a coin
pub behind_coin : {text : List ℕ} {at mid next : ℕ} (o : Option ℕ) (w : List ℕ) (n : ℕ) → n < 4294967296 →
    Stands text at (numbered (codes " ") n) mid →
    ((m : ℕ) (v : List ℕ) (end : ℕ) → Stands text at (numbered (codes " ") m ++ v) end → m < 4294967296 →
    EndsNumber v → Stands text mid v end) →
    Stands text at (coin_digit o ++ (codes " wait " ++ w)) next → IsShort o → Stands text mid (codes " wait " ++ w) next
behind_coin None w n few first only whole short = absurd (no_coin n w few first whole)
behind_coin {text} {at} {mid} {next} (Some m) w n few first only whole short =
    only m (codes " wait " ++ w) next whole short refl

-- the words of a signal don't stand there
abbrev pub Lacks : List ℕ → ℕ → Signal → Type 0
Lacks text at s = (w : List ℕ) (next : ℕ) → Stands text at (signal_words s ++ w) next → false ≡ true

-- if those of no other signal do, a packet's are found
pub the_packet : {text : List ℕ} {at : ℕ} (r : Option SignalRead) → Lacks text at Reset → Lacks text at Idle →
    Lacks text at Parent → Lacks text at Child → Lacks text at Grant → Lacks text at Done →
    IfSome r (λ found. Stands text at (signal_words found.signal) found.next) →
    ((quad : ℕ) (w : List ℕ) (next : ℕ) → Stands text at (signal_words (Packet quad) ++ w) next → IsSome r) →
    (s : Signal) (w : List ℕ) (next : ℕ) → Stands text at (signal_words s ++ w) next →
    IsSomeAnd r (λ found. Stands text found.next w next)
the_packet r reset idle parent child grant done found only Reset w next whole = absurd (let e = reset w next whole in cc)
the_packet r reset idle parent child grant done found only Idle w next whole = absurd (let e = idle w next whole in cc)
the_packet r reset idle parent child grant done found only Parent w next whole = absurd (let e = parent w next whole in cc)
the_packet r reset idle parent child grant done found only Child w next whole = absurd (let e = child w next whole in cc)
the_packet r reset idle parent child grant done found only Grant w next whole = absurd (let e = grant w next whole in cc)
the_packet r reset idle parent child grant done found only Done w next whole = absurd (let e = done w next whole in cc)
the_packet None reset idle parent child grant done found only (Packet quad) w next whole =
    absurd (let e = only quad w next whole in cc)
the_packet (Some x) reset idle parent child grant done found only (Packet quad) w next whole =
    behind_signal x.signal (Packet quad) w found whole
