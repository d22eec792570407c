-- The answer to the bytes that a source told, whatever it is that answers.
use Rattle.std.proofs.Common.{◌≡◌, ◌∙◌, ◌↔◌, ℕ, ◌<◌, ◌≤◌, ◌⊎◌, inl, inr, Option, Some, None, List, [], length, refl, sym, subst}
use Rattle.std.specs.Prelude.{All, IfSome}
use Rattle.std.specs.Io.KnownBytes.{Appends}
use Rattle.io_edges.specs.Told.{AreBytes, AppendsStart}
use Rattle.io_edges.specs.Streams.{KeepsStreams, OfTheAnswer}
use Rattle.top_call.specs.Asked.{AsksSome, AsksUnread, AnswersAsked, EachHasAnAnswer, NoneHasTwoAnswers}

-- what holds of the bytes that were told gives something else of them
pub of_told : (left : Option (List ℕ)) (P Q : List ℕ → Type 0) → AreBytes left →
    ((bytes : List ℕ) → All (λ b. b < 256) bytes → P bytes → Q bytes) → IfSome left P → IfSome left Q
of_told None P Q fit go h = tt
of_told (Some bytes) P Q fit go h = go bytes fit h

-- this holds of the answer to them, and there is one
pub of_answer : (Answers : List ℕ → ℕ → List ℕ → Type 0) → EachHasAnAnswer Answers →
    (left : Option (List ℕ)) (P : ℕ → List ℕ → Type 0) → AreBytes left →
    IfSome left (λ bytes. (s : ℕ) (x : List ℕ) → Answers bytes s x → P s x) → IfSome left (λ bytes. OfTheAnswer Answers bytes P)
of_answer Answers some left P fit =
    of_told left _ _ fit (λ bytes fits h. record { holds = h; some = some bytes fits })

-- some bytes are those that are left, told or not
pub some_left : (left : Option (List ℕ)) → (bytes : List ℕ) × IfSome left (λ told. bytes ≡ told)
some_left None = ([], tt)
some_left (Some bytes) = (bytes, refl)

-- where bytes have no two answers, the whole answer to the bytes that were told was written
pub whole_written : (Answers : List ℕ → ℕ → List ℕ → Type 0) → NoneHasTwoAnswers Answers →
    (left old new : Option (List ℕ)) (read text : List ℕ) (status : ℕ) → IfSome left (λ bytes. read ≡ bytes) →
    Answers read status text → Appends old new text →
    IfSome left (λ bytes. length bytes ≤ 1048576 → (s : ℕ) (x : List ℕ) → Answers bytes s x → ((status ≡ s) × Appends old new x) ⊎ (status ≡ 5))
whole_written Answers one None old new read text status all answers whole = tt
whole_written Answers one (Some bytes) old new read text status all answers whole = λ few s x is.
    let same = one bytes status s text x (subst (λ (b : List ℕ). Answers b status text) all answers) is in
    inl (same.0, subst (Appends old new) same.1 whole)

-- ---- the one thing that is asked for

-- what is found is all that is asked for
pub only_one : {A : Type 0} (Asks : A → Type 0) (asked : A) →
    ((other : A) → (Some asked ≡ Some other) ↔ Asks other) → (other : A) → Asks other → asked ≡ other
only_one Asks asked found other asks = let e = (found other).1 asks in cc

-- the answer to all that is asked for is that to it
pub of_asked : {A : Type 0} (Asks : A → Type 0) (Answers : A → List ℕ → ℕ → List ℕ → Type 0) (asked : A) →
    Asks asked → ((other : A) → Asks other → asked ≡ other) → (bytes : List ℕ) (status : ℕ) (text : List ℕ) →
    AnswersAsked Asks Answers bytes status text → Answers asked bytes status text
of_asked Asks Answers asked asks only bytes status text (inl other) =
    subst (λ (a : _). Answers a bytes status text) (sym (only other.0 other.1)) other.2
of_asked Asks Answers asked asks only bytes status text (inr none) = absurd (none.0 (asked, asks))

-- where nothing is read for what is asked for, nothing is read for it
pub of_unread : {A : Type 0} (Asks IsUnread : A → Type 0) (asked : A) →
    ((other : A) → Asks other → asked ≡ other) → AsksUnread Asks IsUnread → IsUnread asked
of_unread Asks IsUnread asked only other = subst IsUnread (sym (only other.0 other.1)) other.2

-- ---- what is asked for without bytes

-- what is written at status 0 is the answer
pub unread_written : {S K : Type 0} (left : S → Option (List ℕ)) (reads : S → ℕ) (written : K → Option (List ℕ)) (writes : K → ℕ)
    (takes : K → ℕ → Type 0) (Unread : Type 0) (Answers : List ℕ → ℕ → List ℕ → Type 0) (status : ℕ) (source read : S) (sink wrote : K) →
    KeepsStreams left reads written writes takes Unread Answers status source read sink wrote → Unread → status ≡ 0 →
    (text : List ℕ) × Answers [] 0 text × Appends (written sink) (written wrote) text
unread_written left reads written writes takes Unread Answers status source read sink wrote keeps unread zero =
    let alone = keeps.alone unread in
    go alone.some.0 alone.some.1 alone.some.2 (alone.holds alone.some.0 alone.some.1 alone.some.2).0
  where
    go : (s : ℕ) (text : List ℕ) → Answers [] s text →
        ((status ≡ s) × Appends (written sink) (written wrote) text) ⊎ ((status ≡ 4) × AppendsStart (written sink) (written wrote) text) ⊎ (status ≡ 5) →
        (text : List ℕ) × Answers [] 0 text × Appends (written sink) (written wrote) text
    go s text is (inl whole) = (text, subst (λ (n : ℕ). Answers [] n text) (sym whole.0 ∙ zero) is, whole.1)
    go s text is (inr (inl start)) = absurd (let four = start.0 in cc)
    go s text is (inr (inr five)) = absurd cc

-- ---- one answer

-- where each thing that can be asked for has an answer to all bytes, so has what is asked for
pub each_answered : {A : Type 0} (Asks : A → Type 0) (Answers : A → List ℕ → ℕ → List ℕ → Type 0) →
    AsksSome Asks ⊎ (AsksSome Asks → ⊥) → ((asked : A) → Asks asked → EachHasAnAnswer (Answers asked)) → EachHasAnAnswer (AnswersAsked Asks Answers)
each_answered Asks Answers (inl is) each bytes fit = let a = each is.0 is.1 bytes fit in (a.0, a.1, inl (is.0, is.1, a.2))
each_answered Asks Answers (inr none) each bytes fit = (2, [], inr (none, refl, refl))

-- and where none has two, and one thing is asked for, neither has it
pub none_twice : {A : Type 0} (Asks : A → Type 0) (Answers : A → List ℕ → ℕ → List ℕ → Type 0) →
    ((a b : A) → Asks a → Asks b → a ≡ b) → ((asked : A) → NoneHasTwoAnswers (Answers asked)) → NoneHasTwoAnswers (AnswersAsked Asks Answers)
none_twice Asks Answers one two bytes s r x y (inl a) (inl b) =
    two a.0 bytes s r x y a.2 (subst (λ (c : _). Answers c bytes r y) (one b.0 a.0 b.1 a.1) b.2)
none_twice Asks Answers one two bytes s r x y (inl a) (inr none) = absurd (none.0 (a.0, a.1))
none_twice Asks Answers one two bytes s r x y (inr none) (inl b) = absurd (none.0 (b.0, b.1))
none_twice Asks Answers one two bytes s r x y (inr a) (inr b) = (a.1 ∙ sym b.1, a.2 ∙ sym b.2)
