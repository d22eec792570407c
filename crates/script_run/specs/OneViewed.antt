-- A script has one picture and one reporting, exactly where it has a text.
use Rattle.std.specs.Prelude.{◌≡◌, ℕ, List, Ok, Err}
use Rattle.script_lines.specs.declared.kind.ScriptFault.{ScriptFault}
use Rattle.script_told.specs.Script.{ScriptResult}
use Rattle.script_told.specs.Run.{ScriptRun, IsRun, IsResult}
use Rattle.script_run.specs.Viewed.{IsPictureOf, IsPictured, AreLinesOf, AreReported}

-- ---- what is told of a script in some way

-- there is one thing at most
abbrev pub TellsOneThing : (List ℕ → ScriptResult → Type 0) → Type 0
TellsOneThing Tells =
    (bytes : List ℕ) (one other : ScriptResult) → Tells bytes one → Tells bytes other → one ≡ other

-- a script of which something is told has a text
abbrev pub IsToldOfTexts : (List ℕ → ScriptResult → Type 0) → Type 0
IsToldOfTexts Tells =
    (bytes told : List ℕ) → Tells bytes (Ok told) → (text : List ℕ) × IsResult bytes (Ok text)

-- and its fault is the same
abbrev pub TellsTheFault : (List ℕ → ScriptResult → Type 0) → Type 0
TellsTheFault Tells =
    (bytes : List ℕ) (fault : ScriptFault) → Tells bytes (Err fault) → IsResult bytes (Err fault)

-- something is told of a run
pub record HasTold (Tells : ScriptRun → ScriptResult → Type 0) (run : ScriptRun) : Type 0 where
  pub told : ScriptResult
  pub is : Tells run told

-- and of each run of a script
abbrev pub TellsOfEachRun : (ScriptRun → ScriptResult → Type 0) → Type 0
TellsOfEachRun Tells = (bytes : List ℕ) (run : ScriptRun) → IsRun bytes run → HasTold Tells run

-- ---- the picture

abbrev pub ScriptsHaveOnePicture : Type 0
ScriptsHaveOnePicture = TellsOneThing IsPictured

abbrev pub PicturedScriptsAreTold : Type 0
PicturedScriptsAreTold = IsToldOfTexts IsPictured

abbrev pub PictureFaultsAreTold : Type 0
PictureFaultsAreTold = TellsTheFault IsPictured

abbrev pub RunsHavePictures : Type 0
RunsHavePictures = TellsOfEachRun IsPictureOf

-- ---- the lines of the reports

abbrev pub ScriptsHaveOneReporting : Type 0
ScriptsHaveOneReporting = TellsOneThing AreReported

abbrev pub ReportedScriptsAreTold : Type 0
ReportedScriptsAreTold = IsToldOfTexts AreReported

abbrev pub ReportingFaultsAreTold : Type 0
ReportingFaultsAreTold = TellsTheFault AreReported

abbrev pub RunsHaveReportings : Type 0
RunsHaveReportings = TellsOfEachRun AreLinesOf
