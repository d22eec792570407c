use Rattle.script_trace.proofs.News.{trace-news}
use Rattle.script_trace.proofs.trace_listener.TraceListener.news.Goals as goal

pub returns : goal.returns
returns c = trace-news
