use Rattle.std.proofs.Common.{◌≡◌, ◌∙◌, Some, List, length, refl, ap, arith}
use Rattle.std.proofs.lemmas.Option.{slice_get_read}
use Rattle.reset_list.specs.declared.counts.Tally.{Tally}
use Rattle.reset_list.specs.Counts.{is_tally, one_more_of}
use Rattle.reset_list.specs.Update.{place_of, updated}
use Rattle.reset_list.proofs.Update.{place_within, updated_at}
use Rattle.reset_list.proofs.Begun.{tallied_again}
use Rattle.reset_list.proofs.counts.Tallies.again.Goals as goal

pub index-requires : goal.index-requires
index-requires c =
    let tallies = c.self.inside.list.items in
    let there : place_of (is_tally c.args.card c.args.node) tallies ≡ Some c.args.at = rw c.self.view_is c.requires in
    omega (arith, place_within (is_tally c.args.card c.args.node) tallies c.args.at there, c.self.inside.list.ok.0)

pub index_mut-requires : goal.index_mut-requires
index_mut-requires c =
    let tallies = c.self.inside.list.items in
    let there : place_of (is_tally c.args.card c.args.node) tallies ≡ Some c.args.at = rw c.self.view_is c.requires in
    omega (arith, place_within (is_tally c.args.card c.args.node) tallies c.args.at there, c.self.inside.list.ok.0)

pub invariant_of-self : goal.invariant_of-self
invariant_of-self c =
    let tallies = c.self.inside.list.items in
    let there : place_of (is_tally c.args.card c.args.node) tallies ≡ Some c.args.at = rw c.self.view_is c.requires in
    tallied_again c.self.inside.places tallies c.args.at c.args.card c.args.node c.index.result.now c.more.result c.self.invariant there
    (slice_get_read tallies (length tallies) c.args.at c.index.result.now refl (place_within (is_tally c.args.card c.args.node) tallies c.args.at there) c.index.ensures)
    c.more.ensures

pub returns : goal.returns
returns c =
    let tallies = c.self.inside.list.items in
    let there : place_of (is_tally c.args.card c.args.node) tallies ≡ Some c.args.at = rw c.self.view_is c.requires in
    updated_at (is_tally c.args.card c.args.node) (one_more_of c.args.card c.args.node) tallies c.index.result.now c.more.result c.args.at there
    (slice_get_read tallies (length tallies) c.args.at c.index.result.now refl (place_within (is_tally c.args.card c.args.node) tallies c.args.at there) c.index.ensures)
    c.more.ensures
    ∙ ap (λ (ts : List Tally). updated (is_tally c.args.card c.args.node) (one_more_of c.args.card c.args.node) ts) c.self.view_is
