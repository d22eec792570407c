use Rattle.std.proofs.Common.{◌≡◌, ◌∙◌, None, List, [], ◌∷◌, ◌++◌, length, refl, ap, arith}
use Rattle.reset_list.specs.declared.counts.Tally.{Tally}
use Rattle.reset_list.specs.Counts.{is_tally, one_more_of}
use Rattle.reset_list.specs.Update.{place_of, updated}
use Rattle.reset_list.proofs.Update.{updated_none}
use Rattle.reset_list.proofs.Begun.{tallied_first}
use Rattle.reset_list.proofs.counts.Tallies.begin.Goals as goal

pub invariant_of-self-2 : goal.invariant_of-self-2
invariant_of-self-2 c =
    let tallies = c.self.inside.list.items in
    let t : Tally = record { card = c.args.card; node = c.args.node; count = 1 } in
    let none : place_of (is_tally c.args.card c.args.node) tallies ≡ None = rw c.self.view_is c.requires in
    let last : c.len-at.result ≡ length tallies = omega (arith, c.len-at.ensures, c.self.inside.list.ok.0) in
    tallied_first c.self.inside.places c.insert.new.self tallies c.push_reserved.new.self.items c.len-at.result t c.self.invariant none
    c.in_ok-insert.ensures.updates last
    (c.push_reserved.ensures.items ∙ ap (λ (ts : List Tally). ts ++ t ∷ []) c.reserve.ensures.items)

pub returns : goal.returns
returns c =
    let tallies = c.self.inside.list.items in
    let t : Tally = record { card = c.args.card; node = c.args.node; count = 1 } in
    let none : place_of (is_tally c.args.card c.args.node) tallies ≡ None = rw c.self.view_is c.requires in
    c.push_reserved.ensures.items ∙ ap (λ (ts : List Tally). ts ++ t ∷ []) c.reserve.ensures.items
    ∙ updated_none (is_tally c.args.card c.args.node) (one_more_of c.args.card c.args.node) tallies t none refl
    ∙ ap (λ (ts : List Tally). updated (is_tally c.args.card c.args.node) (one_more_of c.args.card c.args.node) ts) c.self.view_is
