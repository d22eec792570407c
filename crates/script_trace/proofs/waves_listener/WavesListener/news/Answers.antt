use Rattle.script_trace.proofs.waves.News.{waves-news}
use Rattle.script_trace.proofs.waves_listener.WavesListener.news.Goals as goal

pub returns : goal.returns
returns c = waves-news
