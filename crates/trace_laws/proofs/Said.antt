-- The names of a line that says a command are names, and its numbers have 32 bits.
use Rattle.std.proofs.Common.{◌≡◌, ℕ, zero, suc, ◌<◌, ◌≤◌, List, [], ◌∷◌, Option, Some, None, Bool, true, false, ◌&&◌, take, drop, refl, sym, subst, arith}
use Rattle.std.specs.Prelude.{cond, nat_le, IfSome, slice_get, unwrap_or}
use Rattle.std.specs.Option.{option_or}
use Rattle.std.specs.Str.Lines.{strip_carriage_return}
use Rattle.std.proofs.lemmas.Bool.Decides.{nat_tests}
use Rattle.std.proofs.lemmas.Bool.{and_parts}
use Rattle.topology_stack.specs.Name.{IsName}
use Rattle.port_state.specs.declared.ranges.TimeRanges.{TimeRanges}
use Rattle.script_lines.specs.declared.kind.Kind.{Kind}
use Rattle.script_lines.specs.declared.kind.Kind.TheVariants as kind
use Rattle.script_lines.specs.declared.command.Command.{Command}
use Rattle.script_lines.specs.declared.command.Command.TheVariants.{Node, Plug, Pull, Reset, Hold, Config, Plan}
use Rattle.script_lines.specs.Number.{number_of}
use Rattle.script_lines.specs.Name.{is_name, NamesAreTested}
use Rattle.script_lines.specs.Shape.{Shape, the, a_name, a_number, a_given, fits, fit, wrong, first_wrong, out_of}
use Rattle.script_lines.specs.Form as form
use Rattle.script_lines.specs.Form.{Form, shapes, word_at, command_of}
use Rattle.script_lines.specs.Words.{words_of}
use Rattle.script_lines.specs.Node.{has_node_form, node_shapes, node_command, wrong_node, first_wrong_pair, are_pairs}
use Rattle.script_lines.specs.Line.{LineForm, node, other, meaning, wrong_word, has_form, IsCommand, ReadsLine}
use Rattle.std.specs.Prelude.{Ok}
use Rattle.trace_laws.proofs.CommandLines.{IsTold}

-- what a line says of the names and of the numbers that a trace may show
abbrev pub IsSaid : Command → Type 0
IsSaid (Node name ports speed link contender force power gap gap_reset hold short long word len seed packed) =
    IsName name
IsSaid (Plug a a_port b b_port) = IsTold (Plug a a_port b b_port)
IsSaid (Pull name port) = IsTold (Pull name port)
IsSaid (Reset name) = IsTold (Reset name)
IsSaid (Hold name port turns) = IsTold (Hold name port turns)
IsSaid (Config name root_id gap) = IsTold (Config name root_id gap)
IsSaid (Plan name) = IsName name
IsSaid command = Unit {0}

-- ---- the word at a place

abbrev Fits : Shape → List ℕ → Type 0
Fits (the text) word = Unit {0}
Fits a_name word = IsName word
Fits (a_number least most) word = unwrap_or (number_of word) 0 ≤ most
Fits (a_given least most) word = unwrap_or (number_of word) 0 ≤ most

number : (least most : ℕ) (n : Option ℕ) → out_of least most n ≡ None → unwrap_or n 0 ≤ most
number least most None h = absurd cc
number least most (Some n) h = go (nat_le least n) (nat_le n most) refl h
  where
    go : (above below : Bool) → nat_le n most ≡ below →
        cond (above && below) None (Some kind.Range) ≡ None → n ≤ most
    go true true b h = grind (arith, nat_tests)
    go true false b h = absurd cc
    go false below b h = absurd cc

both-none : (a b : Option Kind) → option_or a b ≡ None → (a ≡ None) × (b ≡ None)
both-none None b h = (refl, h)
both-none (Some k) b h = absurd cc

module _ (tested : NamesAreTested) where
  name-at : (word : List ℕ) → wrong a_name word ≡ None → IsName word
  name-at word h = go (is_name word) refl h
    where
      go : (b : Bool) → is_name word ≡ b → cond b None (Some kind.Name) ≡ None → IsName word
      go true e h = (tested word).0 e
      go false e h = absurd cc

  one : (shape : Shape) (word : List ℕ) → wrong shape word ≡ None → Fits shape word
  one (the text) word h = tt
  one a_name word h = name-at word h
  one (a_number least most) word h = number least most (number_of word) h
  one (a_given least most) word h = number least most (number_of word) h

  at-place :
      (ss : List Shape) (words : List (List ℕ)) → fit ss words ≡ true → first_wrong ss words ≡ None → (place : ℕ) →
      IfSome (slice_get ss place) (λ shape. Fits shape (word_at words place))
  at-place [] words f w place = tt
  at-place (s ∷ ss) [] f w place = absurd cc
  at-place (s ∷ ss) (word ∷ words) f w zero = one s word (both-none (wrong s word) (first_wrong ss words) w).0
  at-place (s ∷ ss) (word ∷ words) f w (suc place) =
      at-place ss words (and_parts (fits s word) (fit ss words) f).1 (both-none (wrong s word) (first_wrong ss words) w).1 place

  -- ---- the forms

  short : (n most : ℕ) → n ≤ most → most < 4294967296 → n < 4294967296
  short n most a b = omega (arith, a, b)

  fixed : (f : Form) (words : List (List ℕ)) → fit (shapes f) words ≡ true →
      first_wrong (shapes f) words ≡ None → IsSaid (command_of f words)
  fixed form.plug words h w = (
    at-place (shapes form.plug) words h w 1,
    short _ 4294967295 (at-place (shapes form.plug) words h w 2) (omega arith),
    (
      at-place (shapes form.plug) words h w 3,
      short _ 4294967295 (at-place (shapes form.plug) words h w 4) (omega arith),
    ),
  )
  fixed form.pull words h w = (
    at-place (shapes form.pull) words h w 1,
    short _ 4294967295 (at-place (shapes form.pull) words h w 2) (omega arith),
  )
  fixed form.reset words h w = at-place (shapes form.reset) words h w 1
  fixed form.hold words h w = (
    at-place (shapes form.hold) words h w 1,
    short _ 4294967295 (at-place (shapes form.hold) words h w 2) (omega arith),
    short _ 65535 (at-place (shapes form.hold) words h w 3) (omega arith),
  )
  fixed form.config_root words h w = (
    at-place (shapes form.config_root) words h w 1,
    short _ 62 (at-place (shapes form.config_root) words h w 2) (omega arith),
    tt,
  )
  fixed form.config_gap words h w = (
    at-place (shapes form.config_gap) words h w 1,
    tt,
    short _ 63 (at-place (shapes form.config_gap) words h w 3) (omega arith),
  )
  fixed form.config_both words h w = (
    at-place (shapes form.config_both) words h w 1,
    short _ 62 (at-place (shapes form.config_both) words h w 2) (omega arith),
    short _ 63 (at-place (shapes form.config_both) words h w 3) (omega arith),
  )
  fixed form.plan words h w = at-place (shapes form.plan) words h w 1
  fixed form.turn words h w = tt
  fixed form.settle words h w = tt
  fixed form.csr_read words h w = tt
  fixed form.csr_write words h w = tt
  fixed form.csr_lock words h w = tt
  fixed form.look words h w = tt
  fixed form.allocate words h w = tt
  fixed form.release words h w = tt
  fixed form.manager words h w = tt
  fixed form.maps words h w = tt
  fixed form.delay words h w = tt
  fixed form.times_2000 words h w = tt
  fixed form.times_1995 words h w = tt
  fixed form.clock_paced words h w = tt
  fixed form.clock_first words h w = tt

  second : (words : List (List ℕ)) → word_at (take 3 words) 1 ≡ word_at words 1
  second [] = refl
  second (a ∷ []) = refl
  second (a ∷ b ∷ []) = refl
  second (a ∷ b ∷ c ∷ words) = refl

  node-name : (times : TimeRanges) (words : List (List ℕ)) → has_node_form words ≡ true →
      wrong_node times words ≡ None → IsSaid (node_command words)
  node-name times words has right =
      let pairs : List (List ℕ) = drop 3 words in
      let both = both-none (first_wrong node_shapes (take 3 words)) (first_wrong_pair times [] pairs) right in
      let shape = (and_parts (fit node_shapes (take 3 words)) (are_pairs pairs) has).0 in
      subst IsName (second words) (at-place node_shapes (take 3 words) shape both.0 1)

  said : (times : TimeRanges) (words : List (List ℕ)) (f : LineForm) → has_form f words ≡ true →
      wrong_word times f words ≡ None → IsSaid (meaning f words)
  said times words node h right = node-name times words h right
  said times words (other f) h right = fixed f words h right

  pub said-line : (times : TimeRanges) (line : List ℕ) (command : Command) →
      ReadsLine times line (Ok (Some command)) → IsSaid command
  said-line times line command h =
      let words : List (List ℕ) = words_of (strip_carriage_return line) in
      let is : IsCommand times words command = h.1.1 in
      subst IsSaid (sym is.says) (said times words is.form is.has is.right)
