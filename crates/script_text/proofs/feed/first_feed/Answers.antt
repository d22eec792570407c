use Rattle.script_text.proofs.Feeds.{past-start}
use Rattle.script_text.proofs.feed.first_feed.Goals as goal

pub loop-rest-init : goal.loop-rest-init
loop-rest-init c = past-start _
