-- Words with numbers of one digit.
use Rattle.std.proofs.Common.{◌≡◌, ◌<◌, ◌+◌, ◌++◌, List, ℕ, true, false, Bool, decimal, append_assoc, ◌∙◌, ap, refl, arith}
use Rattle.std.specs.Prelude.{slice_set, codes}
use Rattle.std.proofs.lemmas.Fmt.{decimal_digit}
use Rattle.self_id.specs.declared.node.Attrs.{Attrs}
use Rattle.topology_stack.specs.Text.{truth}
use Rattle.view_text.specs.Packet.{field}
use Rattle.view_text.specs.Node.{link_words, gap_words, speed_word}
use Rattle.view_text.specs.Drawing.{cable_text}
use Rattle.view_text.specs.codings.Parts.{gap_front}

truth_small : (b : Bool) → truth b < 10
truth_small true = omega arith
truth_small false = omega arith

pub link_words_are : (a : Attrs) → a.power < 10 →
    slice_set (slice_set (slice_set (codes "link 0 contender 0 power 0") 5 (48 + truth a.link)) 17 (48 + truth a.contender)) 25 (48 + a.power) ≡ link_words a
unfolding link_words field
link_words_are a p =
    rw (decimal_digit (truth a.link) (truth_small a.link), decimal_digit (truth a.contender) (truth_small a.contender), decimal_digit a.power p) refl

pub gap_front_is : (a : Attrs) → a.speed < 10 →
    slice_set (slice_set (codes "initiated 0 speed 0 gap ") 10 (48 + truth a.initiated)) 18 (48 + a.speed) ≡ gap_front a
unfolding gap_front field
gap_front_is a s =
    rw (decimal_digit (truth a.initiated) (truth_small a.initiated), decimal_digit a.speed s) refl

regroup : (out a b c d : List ℕ) → (out ++ (a ++ (b ++ c))) ++ d ≡ out ++ (a ++ (b ++ (c ++ d)))
regroup out a b c d = simp append_assoc

-- the words before a node's gap count, and it
pub gap_words_are : (out front all : List ℕ) (a : Attrs) → front ≡ out ++ gap_front a →
    all ≡ front ++ decimal a.gap → all ≡ out ++ gap_words a
unfolding gap_words gap_front field
gap_words_are out front all a p q =
    q ∙ ap (λ (l : List ℕ). l ++ decimal a.gap) p
    ∙ regroup out (field (codes "initiated ") (truth a.initiated)) (field (codes " speed ") a.speed) (codes " gap ") (decimal a.gap)

-- the ports of a cable, and what stands between them
pub cable_is : (out one two three all : List ℕ) (port speed child : ℕ) →
    one ≡ out ++ field (codes "[") port →
    two ≡ one ++ (codes "]--" ++ (speed_word speed ++ codes "--[")) → three ≡ two ++ decimal child →
    all ≡ three ++ codes "] " → all ≡ out ++ cable_text port speed child
unfolding cable_text field
cable_is out one two three all port speed child p q r s = rw (s, r, q, p) (simp append_assoc)
