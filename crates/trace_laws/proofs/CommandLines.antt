-- The line of an act or a hold is that of an event.
use Rattle.std.proofs.Common.{◌≡◌, ℕ, ◌<◌, List, [], ◌++◌, append-nil, append_assoc, Option, Some, None, refl, ap, sym, subst, ◌∙◌, rules}
use Rattle.std.specs.Prelude.{codes}
use Rattle.topology_stack.specs.Name.{IsName}
use Rattle.script_lines.specs.declared.command.Command.{Command}
use Rattle.script_lines.specs.declared.command.Command.TheVariants as command
use Rattle.script_text.specs.ReportText.{numbered}
use Rattle.script_trace.specs.Trace.{choice, command_line}
use Rattle.trace_event.specs.declared.event.Event.{Event}
use Rattle.trace_event.specs.declared.event.Part.{Part}
use Rattle.trace_event.specs.declared.event.What.{What}
use Rattle.trace_event.specs.declared.event.What.TheVariants.{Plug, Pull, Reset, Hold, Config}
use Rattle.trace_event.specs.Event as event
use Rattle.trace_event.specs.Event.{end_words, what_words, HasNames, HasNumbers, IsShort}
use Rattle.trace_event.specs.Stands.{bytes_of, IsNameIn}
use Rattle.trace_laws.proofs.Lines.{IsLine, AreLines, one-line}
use Rattle.trace_laws.proofs.EventLines.{part_behind, part-bytes, part-name, shown, one-name}

-- ---- what a line says

-- the names of an act or a hold are names, and its numbers have 32 bits
abbrev pub IsTold : Command → Type 0
IsTold (command.Plug a a_port b b_port) =
    IsName a × (a_port < 4294967296) × (IsName b × (b_port < 4294967296))
IsTold (command.Pull name port) = IsName name × (port < 4294967296)
IsTold (command.Reset name) = IsName name
IsTold (command.Hold name port turns) = IsName name × (port < 4294967296) × (turns < 4294967296)
IsTold (command.Config name root_id gap) = IsName name × IsShort root_id × IsShort gap
IsTold command = ⊥

same-choice : (o : Option ℕ) → event.choice o ≡ choice o
unfolding numbered
same-choice None = refl
same-choice (Some n) = refl

-- ---- lines with one name

module _ (turn : ℕ) (few : turn < 4294967296) where
  abbrev front : List ℕ
  front = event.numbered (codes "turn ") turn

  -- behind the turn and a word stands the name, and then `post`
  named :
      (word name post : List ℕ) (what : Part → What) → IsName name →
      ((text : List ℕ) (p : Part) → bytes_of text p ≡ name →
      what_words text (what p) ≡ word ++ (name ++ post)) →
      ((text : List ℕ) (p : Part) → IsNameIn text p → HasNames text (what p)) →
      ((p : Part) → HasNumbers (what p)) → IsLine (front ++ ((word ++ (name ++ post)) ++ codes "\n"))
  named word name post what is says names numbers =
      one-name (front ++ ((word ++ (name ++ post)) ++ codes "\n")) (front ++ word) name (post ++ codes "\n") turn what
      (parts front word name post (codes "\n")) is few
      (λ text p bytes. ap (λ (l : List ℕ). front ++ (l ++ codes "\n")) (says text p bytes)) names numbers
    where
      parts : (t word name post r : List ℕ) → t ++ ((word ++ (name ++ post)) ++ r) ≡ (t ++ word) ++ (name ++ (post ++ r))
      parts t word name post r = search (rules, append_assoc)

  -- ---- lines with two names

  regroup :
      (before t word a mid b post r rest : List ℕ) →
      before ++ ((t ++ ((word ++ (a ++ (mid ++ (b ++ post)))) ++ r)) ++ rest)
      ≡ (before ++ (t ++ word)) ++ (a ++ ((mid ++ (b ++ (post ++ r))) ++ rest))
  regroup before t word a mid b post r rest = search (rules, append_assoc)

  regroup-more :
      (before t word a mid b post r rest : List ℕ) →
      before ++ ((t ++ ((word ++ (a ++ (mid ++ (b ++ post)))) ++ r)) ++ rest)
      ≡ (before ++ (t ++ (word ++ (a ++ mid)))) ++ (b ++ ((post ++ r) ++ rest))
  regroup-more before t word a mid b post r rest = search (rules, append_assoc)

  two-named :
      (word a mid b post : List ℕ) (what : Part → Part → What) → IsName a → IsName b →
      ((text : List ℕ) (p q : Part) → bytes_of text p ≡ a → bytes_of text q ≡ b →
      what_words text (what p q) ≡ word ++ (a ++ (mid ++ (b ++ post)))) →
      ((text : List ℕ) (p q : Part) → IsNameIn text p → IsNameIn text q → HasNames text (what p q)) →
      ((p q : Part) → HasNumbers (what p q)) →
      IsLine (front ++ ((word ++ (a ++ (mid ++ (b ++ post)))) ++ codes "\n"))
  two-named word a mid b post what is also says names numbers before rest =
      let line : List ℕ = front ++ ((word ++ (a ++ (mid ++ (b ++ post)))) ++ codes "\n") in
      let text : List ℕ = before ++ (line ++ rest) in
      let first : List ℕ = before ++ (front ++ word) in
      let second : List ℕ = before ++ (front ++ (word ++ (a ++ mid))) in
      let p : Part = part_behind first a in
      let q : Part = part_behind second b in
      let after : List ℕ = (mid ++ (b ++ (post ++ codes "\n"))) ++ rest in
      let end : List ℕ = (post ++ codes "\n") ++ rest in
      let one : text ≡ first ++ (a ++ after) = regroup before front word a mid b post (codes "\n") rest in
      let two : text ≡ second ++ (b ++ end) = regroup-more before front word a mid b post (codes "\n") rest in
      let p_bytes : bytes_of text p ≡ a = ap (λ (t : List ℕ). bytes_of t p) one ∙ part-bytes first a after in
      let q_bytes : bytes_of text q ≡ b = ap (λ (t : List ℕ). bytes_of t q) two ∙ part-bytes second b end in
      let p_name : IsNameIn text p = subst (λ (t : List ℕ). IsNameIn t p) (sym one) (part-name first a after is) in
      let q_name : IsNameIn text q = subst (λ (t : List ℕ). IsNameIn t q) (sym two) (part-name second b end also) in
      let event : Event = record { turn = turn; what = what p q } in (
        event,
        shown before line rest event
            (ap (λ (l : List ℕ). front ++ (l ++ codes "\n")) (says text p q p_bytes q_bytes))
            (names text p q p_name q_name) few (numbers p q),
      )

  plug-words : (s a m b n : List ℕ) →
      ((s ++ a) ++ m) ++ ((s ++ b) ++ n) ≡ s ++ (a ++ ((m ++ s) ++ (b ++ n)))
  plug-words s a m b n = search (rules, append_assoc)

  -- ---- the five

  pub told-line : (c : Command) → IsTold c → IsLine (command_line turn c)
  unfolding command_line numbered
  told-line (command.Plug a a_port b b_port) h =
      let m : List ℕ = event.numbered (codes " ") a_port in
      let n : List ℕ = event.numbered (codes " ") b_port in
      subst (λ (l : List ℕ). IsLine (front ++ ((codes " plug " ++ (a ++ l)) ++ codes "\n")))
      (append_assoc m (codes " ") (b ++ n))
      (two-named (codes " plug ") a (m ++ codes " ") b n (λ p q. Plug p a_port q b_port) h.0 h.2.0
      (λ text p q one two.
      ap (λ (v : List ℕ). codes " plug" ++ (((codes " " ++ v) ++ m) ++ end_words text q b_port)) one
      ∙ ap (λ (v : List ℕ). codes " plug" ++ (((codes " " ++ a) ++ m) ++ ((codes " " ++ v) ++ n))) two
      ∙ ap (λ (l : List ℕ). codes " plug" ++ l) (plug-words (codes " ") a m b n))
      (λ text p q one two. (one, two)) (λ p q. (h.1, h.2.1)))
  told-line (command.Pull name port) h =
      named (codes " pull ") name (event.numbered (codes " ") port) (λ p. Pull p port) h.0
      (λ text p bytes. ap (λ (b : List ℕ). codes " pull " ++ (b ++ event.numbered (codes " ") port)) bytes)
      (λ text p one. one) (λ p. h.1)
  told-line (command.Reset name) h =
      subst (λ (n : List ℕ). IsLine (front ++ ((codes " reset " ++ n) ++ codes "\n"))) (append-nil name)
      (named (codes " reset ") name [] Reset h
      (λ text p bytes. ap (λ (b : List ℕ). codes " reset " ++ b) (bytes ∙ sym (append-nil name)))
      (λ text p one. one) (λ p. tt))
  told-line (command.Hold name port turns) h =
      named (codes " hold ") name (event.numbered (codes " ") port ++ event.numbered (codes " ") turns)
      (λ p. Hold p port turns) h.0
      (λ text p bytes.
      ap (λ (b : List ℕ). codes " hold " ++ ((b ++ event.numbered (codes " ") port) ++ event.numbered (codes " ") turns)) bytes
      ∙ ap (λ (l : List ℕ). codes " hold " ++ l) (append_assoc name (event.numbered (codes " ") port) (event.numbered (codes " ") turns)))
      (λ text p one. one) (λ p. (h.1, h.2))
  told-line (command.Config name root_id gap) h =
      named (codes " config ") name (choice root_id ++ choice gap) (λ p. Config p root_id gap) h.0
      (λ text p bytes.
      ap (λ (b : List ℕ). codes " config " ++ (b ++ (event.choice root_id ++ event.choice gap))) bytes
      ∙ ap (λ (l : List ℕ). codes " config " ++ (name ++ (l ++ event.choice gap))) (same-choice root_id)
      ∙ ap (λ (l : List ℕ). codes " config " ++ (name ++ (choice root_id ++ l))) (same-choice gap))
      (λ text p one. one) (λ p. (h.1, h.2))
  told-line command h = absurd h

  pub told-lines : (c : Command) → IsTold c → AreLines (command_line turn c)
  told-lines c h = one-line (command_line turn c) (told-line c h)
