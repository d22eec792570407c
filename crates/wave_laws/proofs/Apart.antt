-- The values of a variable are apart: each is read back.
use Rattle.std.proofs.Common.{◌≡◌, ℕ, zero, suc, ◌+◌, ◌*◌, ◌/◌, ◌%◌, ◌^◌, ◌<◌, ◌≤◌, ◌==◌, List, [], ◌∷◌, ◌++◌, Some, None, cond, codes, refl, sym, ◌∙◌, ap, arith}
use Rattle.std.proofs.Math.Nat.{pow-suc, mul-add, mul_assoc, mod-eq_of_lt, div-add-mod, mul-add-mod_self_left}
use Rattle.port_state.specs.declared.signal.Level.{Level}
use Rattle.port_state.specs.declared.signal.Level.TheVariants as level
use Rattle.port_state.specs.declared.signal.Phase.{Phase}
use Rattle.port_state.specs.declared.signal.Phase.TheVariants as phase
use Rattle.script_trace.specs.waves.Value.{binary, state_value, level_value, role_value}
use Rattle.wave_laws.specs.Apart.{NumbersAreApart, StatesAreApart, IdsAreApart, RolesAreApart, LevelsAreApart}

-- ---- numbers

first : List ℕ → ℕ
first [] = 0
first (x ∷ xs) = x

others : List ℕ → List ℕ
others [] = []
others (x ∷ xs) = xs

-- the digit at k, and those below it
digit-more : (n k : ℕ) → n % (k * 2) ≡ (k * (n / k % 2) + n % k) % (k * 2)
digit-more n k =
    let q = n / k in
    let h = q / 2 in
    let parts : k * (2 * h + q % 2) ≡ k * q = ap (λ x. k * x) (div-add-mod q 2) in
    let whole : k * 2 * h + (k * (q % 2) + n % k) ≡ n = omega (arith, mul_assoc k 2 h, mul-add k (2 * h) (q % 2), parts, div-add-mod n k) in
    ap (λ x. x % (k * 2)) (sym whole) ∙ mul-add-mod_self_left (k * 2) h (k * (q % 2) + n % k)

same-digits : (d m n : ℕ) → binary d m ++ codes " " ≡ binary d n ++ codes " " → m % 2 ^ d ≡ n % 2 ^ d
unfolding first others
same-digits zero m n e = omega arith
same-digits (suc d) m n e =
    let k = 2 ^ d in
    let head : 48 + m / k % 2 ≡ 48 + n / k % 2 = ap first e in
    let digit : m / k % 2 ≡ n / k % 2 = omega (arith, head) in
    let below : m % k ≡ n % k = same-digits d m n (ap others e) in
    ap (λ p. m % p) (pow-suc 2 d) ∙ digit-more m k
    ∙ ap (λ x. (k * x + m % k) % (k * 2)) digit ∙ ap (λ x. (k * (n / k % 2) + x) % (k * 2)) below
    ∙ sym (digit-more n k) ∙ sym (ap (λ p. n % p) (pow-suc 2 d))

pub numbers-apart : NumbersAreApart
unfolding others
numbers-apart digits m n few less e =
    sym (mod-eq_of_lt few) ∙ same-digits digits m n (ap others e) ∙ mod-eq_of_lt less

-- ---- words

state-of : List ℕ → Phase
state-of (s ∷ a ∷ b ∷ rest) =
    cond (a == 82) (cond (b == 48) phase.ResetStart phase.ResetWait)
    (cond (a == 84) (cond (b == 48) phase.TreeStart (cond (b == 49) phase.ChildShake (cond (b == 50) phase.ParentShake phase.Contend)))
    (cond (a == 83) phase.SelfIdent phase.Ready))
state-of value = phase.Ready

state-back : (p : Phase) → state-of (state_value p) ≡ p
unfolding state-of
state-back phase.ResetStart = refl
state-back phase.ResetWait = refl
state-back phase.TreeStart = refl
state-back phase.ChildShake = refl
state-back phase.ParentShake = refl
state-back phase.Contend = refl
state-back phase.SelfIdent = refl
state-back phase.Ready = refl

pub states-apart : StatesAreApart
states-apart p q e = sym (state-back p) ∙ ap state-of e ∙ state-back q

level-of : List ℕ → Level
level-of (s ∷ a ∷ b ∷ c ∷ d ∷ rest) =
    cond (a == 66) level.Reset (cond (a == 73) level.Idle (cond (d == 80) level.Parent level.Child))
level-of value = level.Child

level-back : (l : Level) → level-of (level_value l) ≡ l
unfolding level-of
level-back level.Reset = refl
level-back level.Idle = refl
level-back level.Parent = refl
level-back level.Child = refl

pub levels-apart : LevelsAreApart
levels-apart l m e = sym (level-back l) ∙ ap level-of e ∙ level-back m

role-of : List ℕ → ℕ
role-of (s ∷ a ∷ rest) = cond (a == 112) 2 (cond (a == 99) 1 0)
role-of value = 0

role-back : (m : ℕ) → m ≤ 2 → role-of (role_value m) ≡ m
unfolding role-of
role-back zero h = refl
role-back (suc zero) h = refl
role-back (suc (suc zero)) h = refl
role-back (suc (suc (suc m))) h = absurd (omega (arith, h))

pub roles-apart : RolesAreApart
roles-apart m n few less e = sym (role-back m few) ∙ ap role-of e ∙ role-back n less

-- ---- IDs

second : List ℕ → ℕ
second [] = 0
second (x ∷ []) = 0
second (x ∷ y ∷ rest) = y

unknown-alone : (n : ℕ) → 120 ≡ 48 + n / 2 ^ 5 % 2 → ⊥
unknown-alone n e = absurd (omega (arith, e))

pub ids-apart : IdsAreApart
unfolding second
ids-apart None None a b e = refl
ids-apart None (Some n) a b e = absurd (unknown-alone n (ap second e))
ids-apart (Some m) None a b e = absurd (unknown-alone m (sym (ap second e)))
ids-apart (Some m) (Some n) a b e =
    let few : m < 2 ^ 6 = omega (arith, a m refl) in
    let less : n < 2 ^ 6 = omega (arith, b n refl) in
    ap Some (numbers-apart 6 m n few less e)
