-- What a loop over a source or a sink has done so far.
use Rattle.std.proofs.Common.{◌≡◌, ℕ, ◌+◌, ◌-◌, ◌<◌, ◌≤◌, List, ◌++◌, length, take, Option, Some, None, sym, ap, subst, ◌∙◌, append_assoc, length-append, arith}
use Rattle.std.specs.Io.KnownBytes.{Consumes, Appends}
use Rattle.io_edges.specs.Told.{StayTold}

-- the bytes so far came from the source
pub record Takes (first now : Option (List ℕ)) (bytes : List ℕ) (limit before after : ℕ) : Type 0 where
  pub came : Consumes first now bytes
  pub told : StayTold first now
  pub short : length bytes ≤ limit
  pub later : before ≤ after

-- the same, and a read has some room
pub record TakesOn (first now : Option (List ℕ)) (bytes : List ℕ)
    (limit before after room : ℕ) : Type 0 where
  pub came : Consumes first now bytes
  pub told : StayTold first now
  pub short : length bytes ≤ limit
  pub later : before ≤ after
  pub some : 0 < room

-- the bytes so far came from the source, room is left up to the limit, and a taker has them
pub record Gives (first now : Option (List ℕ)) (limit room before after : ℕ) (Old New : List ℕ → Type 0) : Type 0 where
  pub bytes : List ℕ
  pub takes : Takes first now bytes limit before after
  pub size : length bytes + room ≡ limit
  pub stands : (b : List ℕ) → Old b → New (b ++ bytes)

-- the bytes below a place are written, and a sink that promised to take all and more promises the rest
pub record Writes (first now : Option (List ℕ)) (bytes : List ℕ) (at before after : ℕ)
    (Promised Promise : ℕ → Type 0) : Type 0 where
  pub wrote : Appends first now (take at bytes)
  pub told : StayTold first now
  pub inside : at ≤ length bytes
  pub later : before ≤ after
  pub sure : (n : ℕ) → length bytes ≤ n → Promised n → Promise (n - at) × (after ≡ before)

-- two reads in a row
pub Consumes-then : (a b c : Option (List ℕ)) (xs ys : List ℕ) →
    StayTold a b → Consumes a b xs → Consumes b c ys → Consumes a c (xs ++ ys)
Consumes-then None b c xs ys told p q = tt
Consumes-then (Some x) None c xs ys told p q = absurd p
Consumes-then (Some x) (Some y) None xs ys told p q = absurd q
Consumes-then (Some x) (Some y) (Some z) xs ys told p q = p ∙ ap (λ (w : List ℕ). xs ++ w) q ∙ sym (append_assoc xs ys z)

-- two writes in a row
pub Appends-then : (a b c : Option (List ℕ)) (xs ys : List ℕ) →
    StayTold a b → Appends a b xs → Appends b c ys → Appends a c (xs ++ ys)
Appends-then None b c xs ys told p q = tt
Appends-then (Some x) None c xs ys told p q = absurd p
Appends-then (Some x) (Some y) None xs ys told p q = absurd q
Appends-then (Some x) (Some y) (Some z) xs ys told p q = q ∙ ap (λ (w : List ℕ). w ++ ys) p ∙ append_assoc x xs ys

-- one piece more is given
pub gives_on : (first now next : Option (List ℕ)) (limit room before after later : ℕ) (Old Mid New : List ℕ → Type 0) (piece : List ℕ) →
    Gives first now limit room before after Old Mid →
    Consumes now next piece → StayTold now next → length piece ≤ room → after ≤ later → ((b : List ℕ) → Mid b → New (b ++ piece)) → Gives first next limit (room - length piece) before later Old New
gives_on first now next limit room before after later Old Mid New piece h came told fits more taken = record {
  bytes = h.bytes ++ piece;
  takes = record {
    came = Consumes-then first now next h.bytes piece h.takes.told h.takes.came came;
    told = told ∙ h.takes.told;
    short = omega (arith, h.size, length-append h.bytes piece);
    later = omega (arith, h.takes.later);
  };
  size = omega (arith, h.size, length-append h.bytes piece);
  stands = λ b old. subst New (append_assoc b h.bytes piece) (taken (b ++ h.bytes) (h.stands b old));
}
