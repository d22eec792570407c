use Rattle.std.proofs.Common.{◌≡◌, ◌∙◌, Some, List, length, refl, sym, ap, arith}
use Rattle.std.proofs.lemmas.Option.{slice_get_read}
use Rattle.reset_list.specs.Update.{place_of}
use Rattle.reset_list.proofs.Lemmas.{first_nowhere, first_there, place_within}
use Rattle.reset_log.specs.declared.cards.Known.{Known}
use Rattle.reset_log.specs.Noted.{is_of, last_of}
use Rattle.reset_log.proofs.cards.Cards.last_of.Goals as goal

pub index-requires : goal.index-requires
index-requires c =
    let known = c.self.inside.known.items in
    let there : place_of (is_of c.args.card) known ≡ Some c.in-Some.at = rw c.self.view_is (sym c.in-Some.ensures) in
    omega (arith, place_within (is_of c.args.card) known c.in-Some.at there, c.self.inside.known.ok.0)

pub returns-in-Some : goal.returns-in-Some
returns-in-Some c =
    let known = c.self.inside.known.items in
    let there : place_of (is_of c.args.card) known ≡ Some c.in-Some.at = rw c.self.view_is (sym c.in-Some.ensures) in
    sym (slice_get_read known (length known) c.in-Some.at c.index.result.now refl (place_within (is_of c.args.card) known c.in-Some.at there) c.index.ensures)
    ∙ sym (first_there (is_of c.args.card) known c.in-Some.at there)
    ∙ ap (λ (ks : List Known). last_of c.args.card ks) c.self.view_is

pub returns-in-None : goal.returns-in-None
returns-in-None c = sym (first_nowhere (is_of c.args.card) c.args.self.now (sym c.in-None.ensures))
