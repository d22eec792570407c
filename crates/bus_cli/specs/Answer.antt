-- What is answered to words and bytes: the right-hand side of what `bus_main` promises.
use Rattle.std.specs.Prelude.{◌≡◌, ◌⊎◌, ℕ, List, codes, String, Some}
use Rattle.std.specs.Global.{Global}
use Rattle.about.specs.declared.asked.About.{About}
use Rattle.about.specs.Told.{about_text}
use Rattle.self_id.specs.declared.standard.Standard.TheVariants.{Ieee1995, Ieee2000}
use Rattle.topology_stack.specs.Tree.{Tree}
use Rattle.config_rom.specs.declared.fault.RomFault.{RomFault}
use Rattle.config_rom.specs.declared.block.Block.{Block}
use Rattle.config_rom.specs.Rom.{Parts}
use Rattle.config_rom.specs.Fault.{rom_fault}
use Rattle.config_rom.specs.Line.{rom_line}
use Rattle.config_rom.specs.Block.{AreBlocks, BlocksRefused}
use Rattle.config_rom.specs.Text.{IsRomText}
use Rattle.config_rom.specs.OneReading.{IsRomOf, HasGoodBlocks}
use Rattle.bus_cli.specs.declared.form.Form.{Form}
use Rattle.bus_cli.specs.declared.form.Form.TheVariants.{Capture, Rom, Run, Advice, Make, OfItself}
use Rattle.bus_cli.specs.declared.form.CaptureForm.TheVariants.{Read, Read95, Maps}
use Rattle.bus_cli.specs.declared.help.TheConstants.{HELP}
use Rattle.top_call.specs.Asked.{AnswersAsked}
use Rattle.bus_cli.specs.Form.{Asks}
use Rattle.capture_reading.specs.Capture.{Spells}
use Rattle.capture_reading.specs.Answer.{ValidOrRefused, IsCaptureLine, AnswersRead}
use Rattle.script_run.specs.Answer.{AnswersRun, AnswersAdvice, AnswersMake}
use Rattle.script_text.specs.Maps.{IsMapsText}

-- ---- captures

-- `maps`: the maps of the tree that the capture spells, with generation 1
abbrev pub AnswersMaps : List ℕ → ℕ → List ℕ → Type 0
AnswersMaps bytes = ValidOrRefused
    (λ text. (t : Tree) × Spells Ieee2000 bytes t × IsMapsText 1 t text)
    (IsCaptureLine Ieee2000 bytes)

-- ---- configuration ROMs

-- the bytes are those of the ROM, and none of its blocks has a fault
pub record TellsRom (bytes : List ℕ) (v : Parts) : Type 0 where
  pub rom : IsRomOf bytes v
  pub blocks : HasGoodBlocks v

-- the bytes are no ROM for this fault, or they are one whose blocks have it first
abbrev pub HasRomFault : List ℕ → RomFault → Type 0
HasRomFault bytes f =
    (rom_fault bytes ≡ Some f) ⊎ ((v : Parts) × (IsRomOf bytes v × BlocksRefused v f))

-- how a ROM is told: with the blocks that its root directory leads to
pub record TextOfRom (v : Parts) (text : List ℕ) : Type 0 where
  pub list : List Block
  pub are_blocks : AreBlocks v list
  pub is_text : IsRomText v list text

-- `rom`
abbrev pub AnswersRom : List ℕ → ℕ → List ℕ → Type 0
AnswersRom bytes = ValidOrRefused
    (λ text. (v : Parts) × TellsRom bytes v × TextOfRom v text)
    (λ text. (f : RomFault) × HasRomFault bytes f × (text ≡ rom_line f))

-- ---- the program

-- `--help`, `-h` and `--version`: the help, or the version
abbrev pub AnswersOfItself : About → ℕ → List ℕ → Type 0
AnswersOfItself about status text =
    (status ≡ 0) × (text ≡ about_text about (codes "busconf") HELP.now)

-- ---- the whole

-- the status and the text of a form for these bytes
abbrev pub AnswersForm : Form → List ℕ → ℕ → List ℕ → Type 0
AnswersForm (Capture Read) bytes status text = AnswersRead Ieee2000 bytes status text
AnswersForm (Capture Read95) bytes status text = AnswersRead Ieee1995 bytes status text
AnswersForm (Capture Maps) bytes status text = AnswersMaps bytes status text
AnswersForm Rom bytes status text = AnswersRom bytes status text
AnswersForm Run bytes status text = AnswersRun bytes status text
AnswersForm Advice bytes status text = AnswersAdvice bytes status text
AnswersForm (Make nodes seed) bytes status text = AnswersMake nodes seed status text
AnswersForm (OfItself about) bytes status text = AnswersOfItself about status text

-- what the words ask for is answered, and words that are no form by 2 and nothing
abbrev pub Answers : List (String Global) → List ℕ → ℕ → List ℕ → Type 0
Answers words = AnswersAsked (Asks words) AnswersForm
