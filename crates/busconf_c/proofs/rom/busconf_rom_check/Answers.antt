use Rattle.std.proofs.Common.{refl}
use Rattle.std.specs.Prelude.{◌≡◌, Some}
use Rattle.config_rom.specs.Fault.{rom_fault}
use Rattle.busconf_c.specs.Roms.{rom_record, rom_told, no_rom}
use Rattle.busconf_c.proofs.rom.busconf_rom_check.Goals as goal

pub returns-in-Ok : goal.returns-in-Ok
returns-in-Ok c = rom_told c.in-Ok.rom c.in-Ok.ensures.valid c.in-Ok.ensures.found c.tell_rom.ensures

pub returns-in-Err-Fault : goal.returns-in-Err-Fault
returns-in-Err-Fault c =
    let is : rom_fault c.args.bytes.now ≡ Some c.in-Err-Fault.found = rw c.in-Err-Fault.field-0-is at c.in-Err-Fault.ensures.refused in
    let told : c.rom_record.result ≡ rom_record c.in-Err-Fault.found = rw c.in-Err-Fault.field-0-is at c.rom_record.ensures in
    no_rom c.in-Err-Fault.found is told refl refl refl
