use Rattle.std.proofs.Common.{◌<◌, ◌∙◌, length, arith}
use Rattle.cable_world.proofs.running.Rows.{sent-more, behind-more}
use Rattle.cable_world.proofs.wire.add_each.Goals as goal

pub loop-entry-preserved : goal.loop-entry-preserved
loop-entry-preserved c =
    let inside : c.loop-entry.entry-index < length c.args.sends.now = omega arith in
    let items = rw c.just_sent.ensures at c.in_ok-push.ensures.items in
    record {
      sent = λ p.
          sent-more p c.args.sends.now c.loop-entry.entry-index c.entry-item.result c.loop-entry.sent.items c.push.new.self.items inside c.entry-item.is
          items
          ∙ c.loop-entry.invariant.sent p;
      behind = behind-more c.args.sent.now.items c.loop-entry.sent.items c.push.new.self.items _ c.loop-entry.invariant.behind items;
    }
