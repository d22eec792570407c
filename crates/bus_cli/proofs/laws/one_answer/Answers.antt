use Rattle.bus_cli.proofs.OneAnswer.{HasOneReading, HasSomeReading, one_answer, some_answer}
use Rattle.bus_cli.proofs.laws.one_answer.Goals as goal

pub returns-clause-some : goal.returns-clause-some
returns-clause-some c =
    let have : HasSomeReading = record {
      some = c.one_reading.ensures.some;
      maps = c.maps_have_texts.ensures;
      some_rom = c.one_rom.ensures.some;
      some_blocks = c.one_list.ensures.some;
      rom_text = c.roms_have_texts.ensures;
      run = c.each_script_has_a_run.ensures;
      printed_so = c.told_texts_are_printed.ensures;
      made = c.made_scripts_have_no_fault.ensures.run;
      advice = c.each_script_has_an_advice.ensures;
      no_loop = c.advices_leave_no_loop.ensures.text;
    } in
    some_answer have

pub returns-clause-one : goal.returns-clause-one
returns-clause-one c =
    let one : HasOneReading = record {
      tree = c.one_reading.ensures.tree;
      apart = c.one_reading.ensures.apart;
      fault = c.one_reading.ensures.fault;
      one_rom = c.one_rom.ensures.rom;
      rom_apart = c.one_rom.ensures.apart;
      blocks_apart = c.one_list.ensures.apart;
      block_fault = c.one_list.ensures.fault;
      text = c.one_list.ensures.text;
      script = c.scripts_tell_one_thing.ensures.told;
      advice = c.scripts_have_one_advice.ensures;
    } in
    one_answer one
