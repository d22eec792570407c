-- What is answered at the end of a log, or at a stop.
use Rattle.std.proofs.Common.{◌≡◌, ◌∙◌, inl, inr, ℕ, ◌≤◌, Bool, Option, Some, None, Result, Ok, Err, List, ◌++◌, refl, sym, ap, subst, arith}
use Rattle.std.specs.Prelude.{IfSome, IfOk, IfErr, OnErr, alloc_error}
use Rattle.std.specs.Io.KnownBytes.{Appends, Consumes, Keeps}
use Rattle.io_edges.specs.Faults.{Rose}
use Rattle.io_edges.specs.Told.{StayTold}
use Rattle.reset_list.specs.declared.stop.LogStop.{LogStop}
use Rattle.reset_list.specs.declared.stop.LogStop.TheVariants.{ReadFault, WriteFault, TooLong, Memory}
use Rattle.reset_list.specs.Cause.{StoppedWriting}
use Rattle.reset_list.specs.Answered.{IsExact, IsComplete}

-- ---- bytes that were read

-- bytes were read, and more are left
pub log_left : (first now : Option (List ℕ)) (done : List ℕ) (P : List ℕ → Type 0) →
    Consumes first now done → StayTold first now → ((left : List ℕ) → P (done ++ left)) →
    IfSome first P
log_left None now done P came told each = tt
log_left (Some xs) None done P came told each = absurd came
log_left (Some xs) (Some ys) done P came told each = subst P (sym came) (each ys)

-- nothing more was read
pub still_came : (first now next : Option (List ℕ)) (done : List ℕ) → StayTold first now →
    Consumes first now done → Keeps now next → Consumes first next done
still_came None now next done told came keeps = tt
still_came (Some xs) None next done told came keeps = absurd came
still_came (Some xs) (Some ys) None done told came keeps = absurd keeps
still_came (Some xs) (Some ys) (Some zs) done told came keeps = came ∙ ap (λ (l : List ℕ). done ++ l) (sym keeps)

-- ---- faults

-- what holds anyhow holds of a stop
pub on_err : {A E : Type 0} (r : Result A E) (P : Type 0) → P → OnErr r P
on_err (Ok x) P p = tt
on_err (Err x) P p = p

pub rose_later : (a b c : ℕ) → a ≤ b → Rose b c → Rose a c
rose_later a b c le (inl lt) = inl (omega (arith, le, lt))
rose_later a b c le (inr e) = inr e

-- a stop without a fault is want of memory
pub out_of_memory : (result : Result Bool LogStop) (a b c : ℕ) → IfErr result (StoppedWriting b c) →
    a ≤ b → (Rose a c → ⊥) → (IfOk result (λ bad. ⊥)) → result ≡ Err (Memory alloc_error)
out_of_memory (Ok bad) a b c stops le none ok = absurd ok
out_of_memory (Err ReadFault) a b c stops le none ok = absurd stops
out_of_memory (Err WriteFault) a b c stops le none ok = absurd (none (rose_later a b c le stops))
out_of_memory (Err TooLong) a b c stops le none ok = absurd stops
out_of_memory (Err (Memory e)) a b c stops le none ok = refl

-- ---- a text

-- what was answered with a text is exact where the text is the only one
pub exact_of : (IsText : List ℕ → Bool → Type 0) (old new : Option (List ℕ)) (result : Result Bool LogStop) →
    ((a b : List ℕ) (c d : Bool) → IsText a c → IsText b d → (a ≡ b) × (c ≡ d)) →
    IfOk result (λ bad. (text : List ℕ) × IsText text bad × Appends old new text) →
    IsExact IsText result
exact_of IsText old new (Ok c) one given = λ text bad is. (one given.0 text c bad given.1 is).1
exact_of IsText old new (Err stop) one given = λ text bad is. tt

pub complete_of : (IsText : List ℕ → Bool → Type 0) (old new : Option (List ℕ)) (result : Result Bool LogStop) (a b c : ℕ) →
    ((x y : List ℕ) (p q : Bool) → IsText x p → IsText y q → (x ≡ y) × (p ≡ q)) →
    IfOk result (λ bad. (text : List ℕ) × IsText text bad × Appends old new text) →
    IfErr result (StoppedWriting b c) → a ≤ b → (Rose a c → ⊥) → IsComplete IsText result old new
complete_of IsText old new (Ok p) a b c one given stops le none = λ text bad is.
    let same = one given.0 text p bad given.1 is in
    inl (ap (λ (v : Bool). Ok v) same.1, subst (λ (l : List ℕ). Appends old new l) same.0 given.2)
complete_of IsText old new (Err stop) a b c one given stops le none = λ text bad is.
    inr (out_of_memory (Err stop) a b c stops le none tt)
