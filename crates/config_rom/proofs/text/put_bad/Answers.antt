use Rattle.std.proofs.Common.{◌≡◌, ◌++◌, ◌∙◌, ap}
use Rattle.topology_stack.specs.Hex.{hex}
use Rattle.config_rom.specs.Text.{bad_text}
use Rattle.config_rom.proofs.Appended.{four}
use Rattle.std.specs.Prelude.{codes}
use Rattle.config_rom.proofs.text.put_bad.Goals as goal

pub returns : goal.returns
unfolding bad_text
returns c =
    let kept : c.put_hex.new.out.items ≡ c.extend_from_slice.new.self.items ++ hex 4 c.args.kept = c.in_ok-put_hex.ensures ∙ ap (λ n. c.extend_from_slice.new.self.items ++ hex 4 n) c.from.ensures in
    let computed : c.put_hex-2.new.out.items ≡ c.extend_from_slice-2.new.self.items ++ hex 4 c.args.computed = c.in_ok-put_hex-2.ensures ∙ ap (λ n. c.extend_from_slice-2.new.self.items ++ hex 4 n) c.from-2.ensures in
    four c.args.out.now.items (codes "bad ") (hex 4 c.args.kept) (codes " ") (hex 4 c.args.computed)
    c.extend_from_slice.new.self.items c.put_hex.new.out.items c.extend_from_slice-2.new.self.items c.put_hex-2.new.out.items
    c.in_ok-extend_from_slice.ensures.items kept c.in_ok-extend_from_slice-2.ensures.items computed
