use Rattle.std.proofs.Common.{◌≡◌, List, ℕ, [], ◌++◌, take, length, sym, ap, ◌∙◌, length-append, arith, refl}
use Rattle.std.proofs.lemmas.Bool.{eqb-true}
use Rattle.std.proofs.lemmas.List.{nil_from_length}
use Rattle.bus_cli.specs.codings.Pieces.{Pieces}
use Rattle.bus_cli.proofs.Gathering.{holds_pair, small_front}
use Rattle.bus_cli.proofs.reader.CaptureReader.take_front.Goals as goal

-- a whole pair stands first, and no byte waits
pub returns-in-Some-clause-held : goal.returns-in-Some-clause-held
returns-in-Some-clause-held c = λ bytes h small.
    let eight = take 8 c.args.piece.now in
    let empty : c.self.inside.rest.items ≡ [] = nil_from_length c.self.inside.rest.items (eqb-true (length c.self.inside.rest.items) 0 (sym c.if-is_empty.ensures)) in
    let none : c.args.self.now.rest ≡ [] = ap (λ (r : Pieces). r.rest) (sym c.self.view_is) ∙ empty in
    let some = c.in-Some.ensures in
    holds_pair c.args.self.now c.push_pair.new.self c.in-Some.first c.in-Some.second bytes eight eight (h (omega (arith, small, length-append bytes eight)))
    (small_front 8 c.args.piece.now c.type_inv.piece) small (ap (λ (x : List ℕ). x ++ eight) (sym none)) (some.eight.0 refl) some.pair
    (c.push_pair.ensures.rest ∙ none) c.push_pair.ensures.pairs c.push_pair.ensures.bad c.push_pair.ensures.list
