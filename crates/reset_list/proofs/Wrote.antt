-- Writes in a row.
use Rattle.std.proofs.Common.{◌≡◌, ◌∙◌, ℕ, ◌-◌, Bool, Option, Some, None, List, [], ◌++◌, length, take, drop, refl, sym, ap, subst, append_assoc, append-nil, length-append, arith}
use Rattle.std.specs.Prelude.{IfSome}
use Rattle.std.specs.Io.KnownBytes.{Appends}
use Rattle.std.proofs.KnownBytes.{Appends-nil, Appends-trans}
use Rattle.std.proofs.lemmas.List.{take-append-drop, take_at}
use Rattle.io_edges.specs.Told.{AppendsStart}
use Rattle.reset_list.specs.Answered.{IsFront, IsSure}
use Rattle.reset_list.specs.Wrote.{Wrote, WroteFront, WroteFrontOf}

-- a text that was appended is the front of each that begins with it
start_of : (old new : Option (List ℕ)) (front rest text : List ℕ) → Appends old new front →
    text ≡ front ++ rest → AppendsStart old new text
start_of old new front rest text wrote is =
    (length front, subst (λ (l : List ℕ). Appends old new l) (sym (ap (λ (l : List ℕ). take (length front) l) is ∙ take_at front rest (length front) refl)) wrote)

pub wrote_nothing : {K : Type 0} {w : K → Option (List ℕ)} {f : K → ℕ} {t : K → ℕ → Type 0} (a : K) →
    Wrote w f t a a []
wrote_nothing {w = w} {t = t} a = record {
  appended = Appends-nil (w a);
  sure = λ n fits promised. (subst (t a) (omega arith) promised, refl);
}

pub wrote_then : {K : Type 0} {w : K → Option (List ℕ)} {f : K → ℕ} {t : K → ℕ → Type 0} (a b c : K) (xs ys : List ℕ) →
    Wrote w f t a b xs → Wrote w f t b c ys → Wrote w f t a c (xs ++ ys)
wrote_then {w = w} {t = t} a b c xs ys p q = record {
  appended = Appends-trans (w a) (w b) (w c) xs ys p.appended q.appended;
  sure = λ n fits promised.
      let size = length-append xs ys in
      let first = p.sure n (omega (arith, fits, size)) promised in
      let second = q.sure (n - length xs) (omega (arith, fits, size)) first.0 in
      (subst (t c) (omega (arith, size)) second.0, second.1 ∙ first.1);
}

-- the front of a second text
pub front_then : {K : Type 0} {w : K → Option (List ℕ)} {f : K → ℕ} {t : K → ℕ → Type 0} (a b c : K) (xs ys : List ℕ) →
    Wrote w f t a b xs → WroteFront w f t b c ys → WroteFront w f t a c (xs ++ ys)
front_then {w = w} a b c xs ys p q =
    let front = take q.appended.0 ys in
    let rest = drop q.appended.0 ys in
    record {
      appended =
          start_of (w a) (w c) (xs ++ front) rest (xs ++ ys) (Appends-trans (w a) (w b) (w c) xs front p.appended q.appended.1)
          (sym (append_assoc xs front rest ∙ ap (λ (l : List ℕ). xs ++ l) (take-append-drop q.appended.0 ys)));
      sure = λ n fits promised.
          let size = length-append xs ys in
          let first = p.sure n (omega (arith, fits, size)) promised in
          q.sure (n - length xs) (omega (arith, fits, size)) first.0 ∙ first.1;
    }

-- a front of a text that begins so
pub front_more : {K : Type 0} {w : K → Option (List ℕ)} {f : K → ℕ} {t : K → ℕ → Type 0} (a b : K) (xs ys text : List ℕ) →
    text ≡ xs ++ ys → WroteFront w f t a b xs → WroteFront w f t a b text
front_more {w = w} a b xs ys text is p =
    let front = take p.appended.0 xs in
    let rest = drop p.appended.0 xs in
    record {
      appended =
          start_of (w a) (w b) front (rest ++ ys) text p.appended.1
          (is ∙ ap (λ (l : List ℕ). l ++ ys) (sym (take-append-drop p.appended.0 xs)) ∙ append_assoc front rest ys);
      sure = λ n fits promised. p.sure n (omega (arith, fits, ap (λ (l : List ℕ). length l) is, length-append xs ys)) promised;
    }

-- the whole text
pub front_whole : {K : Type 0} {w : K → Option (List ℕ)} {f : K → ℕ} {t : K → ℕ → Type 0} (a b : K) (xs : List ℕ) →
    Wrote w f t a b xs → WroteFront w f t a b xs
front_whole {w = w} a b xs p = record {
  appended = start_of (w a) (w b) xs [] xs p.appended (sym (append-nil xs));
  sure = λ n fits promised. (p.sure n fits promised).1;
}

-- ---- of a call

pub is_front : {K : Type 0} (w : K → Option (List ℕ)) (f : K → ℕ) (t : K → ℕ → Type 0) (IsText : List ℕ → List ℕ → Bool → Type 0) (first : Option (List ℕ)) (old new : K) →
    IfSome first (λ input. WroteFrontOf w f t (IsText input) old new) →
    IfSome first (λ input. IsFront (IsText input) (w old) (w new))
is_front w f t IsText None old new h = tt
is_front w f t IsText (Some input) old new h = λ text bad is. (h text bad is).appended

pub is_sure : {K : Type 0} (w : K → Option (List ℕ)) (f : K → ℕ) (t : K → ℕ → Type 0) (IsText : List ℕ → List ℕ → Bool → Type 0) (first : Option (List ℕ)) (old new : K) →
    IfSome first (λ input. WroteFrontOf w f t (IsText input) old new) →
    IfSome first (λ input. IsSure (IsText input) (t old) (f old) (f new))
is_sure w f t IsText None old new h = tt
is_sure w f t IsText (Some input) old new h = λ text bad is promised. (h text bad is).sure (length text) (omega arith) promised
