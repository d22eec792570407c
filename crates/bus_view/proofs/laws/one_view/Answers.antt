use Rattle.bus_view.proofs.OneView.{one_answer}
use Rattle.bus_view.proofs.SomeView.{some-answer}
use Rattle.bus_view.proofs.laws.one_view.Goals as goal

pub returns-clause-some : goal.returns-clause-some
returns-clause-some c =
    some-answer record {
      some = c.one_reading.ensures.some;
      run = c.each_script_has_a_run.ensures;
      traces = c.scripts_have_one_trace.ensures.some;
      dumps = c.scripts_have_one_dump.ensures.some;
      pictures = c.scripts_have_one_view.ensures.picture_some;
      reportings = c.scripts_have_one_view.ensures.reporting_some;
      logs = c.logs_have_one_text.ensures.some;
      bus_dumps = c.dumps_have_one_text.ensures.some;
    }

pub returns-clause-one : goal.returns-clause-one
returns-clause-one c =
    one_answer record {
      trees = c.one_reading.ensures.tree;
      apart = c.one_reading.ensures.apart;
      faults = c.one_reading.ensures.fault;
      runs = c.scripts_tell_one_thing.ensures.run;
      told = c.scripts_tell_one_thing.ensures.told;
      traces = c.scripts_have_one_trace.ensures.one;
      texts = c.scripts_have_one_trace.ensures.told;
      dumps = c.scripts_have_one_dump.ensures.one;
      dumped_texts = c.scripts_have_one_dump.ensures.told;
      pictures = c.scripts_have_one_view.ensures.picture;
      pictured_texts = c.scripts_have_one_view.ensures.picture_told;
      reports = c.scripts_have_one_view.ensures.reporting;
      reported_texts = c.scripts_have_one_view.ensures.reporting_told;
      logs = c.logs_have_one_text.ensures.one;
      bus_dumps = c.dumps_have_one_text.ensures.one;
    }
