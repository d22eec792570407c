use Rattle.std.proofs.Common.{◌≡◌, ◌∙◌, ◌&&◌, Bool, is_none, Some, List, length, refl, ap, arith}
use Rattle.std.proofs.lemmas.Option.{slice_get_read}
use Rattle.reset_list.specs.Update.{place_of, updated}
use Rattle.reset_list.proofs.Lemmas.{place_within, updated_at}
use Rattle.reset_log.specs.declared.cards.Known.{Known}
use Rattle.reset_log.specs.Noted.{is_of, known_by}
use Rattle.reset_log.proofs.Kept.{kept_at}
use Rattle.reset_log.proofs.cards.Cards.keep_at.Goals as goal

pub index-requires : goal.index-requires
index-requires c =
    let known = c.self.inside.known.items in
    let there : place_of (is_of c.args.reset.now.card) known ≡ Some c.args.at = rw c.self.view_is c.requires in
    omega (arith, place_within (is_of c.args.reset.now.card) known c.args.at there, c.self.inside.known.ok.0)

pub index_mut-requires : goal.index_mut-requires
index_mut-requires c =
    let known = c.self.inside.known.items in
    let there : place_of (is_of c.args.reset.now.card) known ≡ Some c.args.at = rw c.self.view_is c.requires in
    omega (arith, place_within (is_of c.args.reset.now.card) known c.args.at there, c.self.inside.known.ok.0)

pub invariant_of-self-2 : goal.invariant_of-self-2
invariant_of-self-2 c =
    let known = c.self.inside.known.items in
    let there : place_of (is_of c.args.reset.now.card) known ≡ Some c.args.at = rw c.self.view_is c.requires in
    let within = place_within (is_of c.args.reset.now.card) known c.args.at there in
    kept_at c.self.inside.places c.self.inside.drawn c.add_if.new.places known c.args.at c.index_mut.result.now c.note.new.known c.index.result.now c.args.reset.now c.args.heard
    c.is_first_tree-wanted.result c.self.invariant there
    (c.is_first_tree-wanted.ensures ∙ ap (λ (b : Bool). b && is_none c.index.result.now.tree) c.is_some.ensures)
    c.in_ok-add_if.ensures.there c.add_if.ensures.others
    (slice_get_read known (length known) c.args.at c.index.result.now refl within c.index.ensures)
    (slice_get_read known (length known) c.args.at c.index_mut.result.now refl within c.index_mut.ensures.value)
    c.note.ensures

pub returns : goal.returns
returns c =
    let known = c.self.inside.known.items in
    let there : place_of (is_of c.args.reset.now.card) known ≡ Some c.args.at = rw c.self.view_is c.requires in
    updated_at (is_of c.args.reset.now.card) (known_by c.args.reset.now c.args.heard) known c.index_mut.result.now c.note.new.known c.args.at there
    (slice_get_read known (length known) c.args.at c.index_mut.result.now refl (place_within (is_of c.args.reset.now.card) known c.args.at there) c.index_mut.ensures.value)
    c.note.ensures
    ∙ ap (λ (ks : List Known). updated (is_of c.args.reset.now.card) (known_by c.args.reset.now c.args.heard) ks) c.self.view_is
