use Rattle.std.proofs.Common.{◌≡◌, ◌∙◌, ◌-◌, ◌++◌, ℕ, List, length, take, refl, ap, arith}
use Rattle.reset_log.proofs.Going.{kept_on}
use Rattle.reset_log.proofs.log.LogReader.keep.Goals as goal

pub returns : goal.returns
returns c =
    let room : c.saturating_sub-room.result ≡ 65536 - length c.args.self.now.line.items = omega (arith, c.saturating_sub-room.ensures, c.len.ensures, c.args.self.now.line.ok.0) in
    record {
      line_is = λ line e.
          c.in_ok-extend_from_slice.ensures.items
          ∙ ap (λ (l : List ℕ). c.args.self.now.line.items ++ l) (c.front.ensures ∙ ap (λ (n : ℕ). take n c.args.bytes.now) room)
          ∙ kept_on 65536 c.args.self.now.line.items line c.args.bytes.now e;
      form = refl;
      notes = refl;
      number_is = refl;
      taken_is = λ few. omega (arith, c.saturating_add-self.ensures, few);
      bad = refl;
    }
