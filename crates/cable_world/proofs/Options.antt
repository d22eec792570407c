-- What an option has.
use Rattle.std.proofs.Common.{◌≡◌, Option, Some, None, ap, refl, subst, sym}
use Rattle.std.specs.Option.{IsSomeAnd, option_map}

abbrev or-else : {A : Type 0} → A → Option A → A
or-else d None = d
or-else d (Some x) = x

pub some-same : {A : Type 0} → (a b : A) → Some a ≡ Some b → a ≡ b
some-same a b h = ap (or-else a) h

pub none-some : {A : Type 0} → (o : Option A) (x : A) → o ≡ None → o ≡ Some x → ⊥
none-some o x n e = cc

-- a fact of what is there follows from another, and goes through a map
pub some-and :
    {A : Type 0} → (o : Option A) (P Q : A → Type 0) → ((x : A) → P x → Q x) → IsSomeAnd o P →
    IsSomeAnd o Q
some-and None P Q f h = absurd h
some-and (Some x) P Q f h = f x h

pub mapped :
    {A B : Type 0} → (o : Option A) (f : A → B) (P : B → Type 0) → IsSomeAnd o (λ x. P (f x)) →
    IsSomeAnd (option_map f o) P
mapped None f P h = absurd h
mapped (Some x) f P h = h

pub unmapped :
    {A B : Type 0} → (o : Option A) (f : A → B) (P : B → Type 0) → IsSomeAnd (option_map f o) P →
    IsSomeAnd o (λ x. P (f x))
unmapped None f P h = absurd h
unmapped (Some x) f P h = h

-- what is there, and that it is there
pub some-of : {A : Type 0} → (o : Option A) (P : A → Type 0) → IsSomeAnd o P →
    (x : A) × (o ≡ Some x) × P x
some-of None P h = absurd h
some-of (Some x) P h = (x, refl, h)

pub some-at : {A : Type 0} → (o : Option A) (x : A) (P : A → Type 0) → o ≡ Some x → P x →
    IsSomeAnd o P
some-at o x P e h = subst (λ q. IsSomeAnd q P) (sym e) h
