-- Where a clock that misses turns again and again stands some turns later, and how often it ticks in them.
use Rattle.std.proofs.Common.{◌≡◌, ◌⊎◌, inl, inr, ℕ, zero, suc, ◌+◌, ◌-◌, ◌*◌, ◌/◌, ◌%◌, ◌<◌, ◌≤◌, Bool, true, false, refl, sym, ◌∙◌, ap, arith, if◌then◌else◌}
use Rattle.std.proofs.lemmas.Nat.{div-mul-add, mod-mul-add, div-add-mod'}
use Rattle.std.proofs.Math.Nat.{mod-lt}
use Rattle.port_state.specs.Clock.{Clock, even, every, misses, clock_after, clock_on, ticks_in}

-- ---- an even clock

pub even-on : (turns : ℕ) → clock_on turns even ≡ even
even-on zero = refl
even-on (suc k) = ap clock_after (even-on k)

pub even-ticks : (turns : ℕ) → ticks_in turns even ≡ turns
even-ticks zero = refl
even-ticks (suc k) =
    ap (λ c. ticks_in k even + (if misses c then 0 else 1)) (even-on k) ∙ omega (arith, even-ticks k)

-- ---- a slow one

-- so many turns later it missed so many, and ticks so often before the next
record Stands (gap left turns : ℕ) : Type 0 where
  missed : ℕ
  rest : ℕ
  clock : clock_on turns (every gap left) ≡ every gap rest
  ticks : ticks_in turns (every gap left) + missed ≡ turns
  sum : turns + rest ≡ left + missed * (gap + 1)
  low : (missed ≡ 0) ⊎ (rest ≤ gap)

stands : (gap left turns : ℕ) → Stands gap left turns
stands gap left zero = record {
  missed = 0;
  rest = left;
  clock = refl;
  ticks = refl;
  sum = omega arith;
  low = inl refl;
}
stands gap left (suc k) = let s = stands gap left k in go s s.rest refl
  where
    go : (s : Stands gap left k) (rest : ℕ) → s.rest ≡ rest → Stands gap left (suc k)
    go s zero e =
        let there : clock_on k (every gap left) ≡ every gap 0 = s.clock ∙ ap (every gap) e in
        let z : (s.missed + 1) * (gap + 1) ≡ s.missed * (gap + 1) + (gap + 1) = grind arith in
        record {
          missed = s.missed + 1;
          rest = gap;
          clock = ap clock_after there;
          ticks = ap (λ c. ticks_in k (every gap left) + (if misses c then 0 else 1) + (s.missed + 1)) there ∙ omega (arith, s.ticks);
          sum = omega (arith, z, s.sum, e);
          low = inr (omega arith);
        }
    go s (suc r) e =
        let there : clock_on k (every gap left) ≡ every gap (suc r) = s.clock ∙ ap (every gap) e in
        record {
          missed = s.missed;
          rest = r;
          clock = ap clock_after there;
          ticks = ap (λ c. ticks_in k (every gap left) + (if misses c then 0 else 1) + s.missed) there ∙ omega (arith, s.ticks);
          sum = omega (arith, s.sum, e);
          low = elim s.low [ inl none ↦ inl none | inr few ↦ inr (omega (arith, few, e)) ];
        }

-- before the first turn that it misses
pub record Before (gap left turns : ℕ) : Type 0 where
  pub clock : clock_on turns (every gap left) ≡ every gap (left - turns)
  pub ticks : ticks_in turns (every gap left) ≡ turns

pub before-first : (gap left turns : ℕ) → turns ≤ left → Before gap left turns
before-first gap left turns few = let s = stands gap left turns in go s s.missed refl
  where
    go : (s : Stands gap left turns) (m : ℕ) → s.missed ≡ m → Before gap left turns
    go s zero e =
        let z : s.missed * (gap + 1) ≡ 0 = ap (λ m. m * (gap + 1)) e ∙ grind arith in
        let rest : s.rest ≡ left - turns = omega (arith, z, s.sum, few) in
        record { clock = s.clock ∙ ap (every gap) rest; ticks = omega (arith, s.ticks, e) }
    go s (suc m) e =
        let z : s.missed * (gap + 1) ≡ m * (gap + 1) + (gap + 1) = ap (λ n. n * (gap + 1)) e ∙ grind arith in
        absurd (elim s.low [
          | inl none ↦ omega (arith, none, e)
          | inr low ↦ omega (arith, z, s.sum, few, low)
        ])

-- and behind it: so many turns past it
pub record Behind (gap left past : ℕ) : Type 0 where
  pub clock :
      clock_on (left + 1 + past) (every gap left) ≡ every gap (gap - past % (gap + 1))
  pub ticks :
      ticks_in (left + 1 + past) (every gap left) + 1 + past / (gap + 1) ≡ left + 1 + past

pub behind-first : (gap left past : ℕ) → Behind gap left past
behind-first gap left past = let s = stands gap left (left + 1 + past) in go s s.missed refl
  where
    go : (s : Stands gap left (left + 1 + past)) (m : ℕ) → s.missed ≡ m → Behind gap left past
    go s zero e =
        let z : s.missed * (gap + 1) ≡ 0 = ap (λ m. m * (gap + 1)) e ∙ grind arith in
        absurd (omega (arith, z, s.sum))
    go s (suc m) e =
        let z : s.missed * (gap + 1) ≡ m * (gap + 1) + (gap + 1) = ap (λ n. n * (gap + 1)) e ∙ grind arith in
        let low : s.rest ≤ gap = elim s.low [ inl none ↦ absurd (omega (arith, none, e)) | inr low ↦ low ] in
        let is : past ≡ m * (gap + 1) + (gap - s.rest) = omega (arith, z, s.sum, low) in
        let div : past / (gap + 1) ≡ m = ap (λ n. n / (gap + 1)) is ∙ div-mul-add m (gap + 1) (gap - s.rest) (omega arith) in
        let over : past % (gap + 1) ≡ gap - s.rest = ap (λ n. n % (gap + 1)) is ∙ mod-mul-add m (gap + 1) (gap - s.rest) (omega arith) in
        let rest : s.rest ≡ gap - past % (gap + 1) = omega (arith, over, low) in
        record { clock = s.clock ∙ ap (every gap) rest; ticks = omega (arith, s.ticks, e, div) }

-- ---- the turns before a tick

-- behind the first turn that it misses: the turn of a tick is as many turns on as ticks and missed turns
-- come before it
pub record AtTick (gap left more : ℕ) : Type 0 where
  pub ticks :
      ticks_in (left + more + (1 + more / gap)) (every gap left) ≡ left + more
  pub none : misses (clock_on (left + more + (1 + more / gap)) (every gap left)) ≡ false

pub at-tick : (gap left more : ℕ) → 1 ≤ gap → AtTick gap left more
at-tick gap left more some =
    let q = more / gap in
    let r = more % gap in
    let low : r < gap = mod-lt more (omega (arith, some)) in
    let split : q * gap + r ≡ more = div-add-mod' more gap in
    let past : more + q ≡ q * (gap + 1) + r = (let z : q * (gap + 1) ≡ q * gap + q = grind arith in omega (arith, z, split)) in
    let div : (more + q) / (gap + 1) ≡ q = ap (λ n. n / (gap + 1)) past ∙ div-mul-add q (gap + 1) r (omega (arith, low)) in
    let over : (more + q) % (gap + 1) ≡ r = ap (λ n. n % (gap + 1)) past ∙ mod-mul-add q (gap + 1) r (omega (arith, low)) in
    let b = behind-first gap left (more + q) in
    let turns : left + more + (1 + q) ≡ left + 1 + (more + q) = omega arith in
    let rest : gap - (more + q) % (gap + 1) ≡ suc (gap - r - 1) = omega (arith, over, low) in
    record {
      ticks = ap (λ n. ticks_in n (every gap left)) turns ∙ omega (arith, b.ticks, div);
      none = ap (λ n. misses (clock_on n (every gap left))) turns ∙ ap misses b.clock ∙ ap (λ n. misses (every gap n)) rest;
    }

-- ---- ticks add up

pub ticks-rise : (m n : ℕ) (c : Clock) → m ≤ n → ticks_in m c ≤ ticks_in n c
ticks-rise m n c h = go (n - m) n (omega (arith, h))
  where
    go : (k n : ℕ) → n ≡ m + k → ticks_in m c ≤ ticks_in n c
    go zero n e = let z : m ≡ n = omega (arith, e) in let same = ap (λ i. ticks_in i c) z in omega (arith, same)
    go (suc k) n e =
        let z : suc (m + k) ≡ n = omega (arith, e) in
        let same : ticks_in (suc (m + k)) c ≡ ticks_in n c = ap (λ i. ticks_in i c) z in
        let before = go k (m + k) refl in
        omega (arith, same, before)

-- a tick before the end counts
pub ticks-below :
    (m n : ℕ) (c : Clock) → m < n → misses (clock_on m c) ≡ false → ticks_in m c < ticks_in n c
ticks-below m n c h e =
    let one : ticks_in (suc m) c ≡ ticks_in m c + 1 = ap (λ b. ticks_in m c + (if b then 0 else 1)) e in
    let rise = ticks-rise (suc m) n c (omega (arith, h)) in
    omega (arith, one, rise)

-- a turn has a tick at most
pub ticks-most : (turns : ℕ) (c : Clock) → ticks_in turns c ≤ turns
ticks-most zero c = omega arith
ticks-most (suc k) c = go (misses (clock_on k c)) (ticks-most k c)
  where
    go : (b : Bool) → ticks_in k c ≤ k → ticks_in k c + (if b then 0 else 1) ≤ suc k
    go true h = omega (arith, h)
    go false h = omega (arith, h)
