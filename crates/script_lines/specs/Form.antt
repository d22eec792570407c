-- The lines of a script, but for those that declare nodes.
use Rattle.std.specs.Prelude.{ℕ, List, [], ◌∷◌, codes, slice_get, unwrap_or, Some, None}
use Rattle.self_id.specs.declared.standard.Standard.TheVariants.{Ieee1995, Ieee2000}
use Rattle.script_lines.specs.declared.command.Command.{Command}
use Rattle.script_lines.specs.declared.command.Command.TheVariants.{Plug, Pull, Reset, Turn, Hold, Settle, Config, CsrRead, CsrWrite, CsrLock, Look, Allocate, Release, Manager, Plan, Maps, Delay, Times, Clock}
use Rattle.script_lines.specs.Number.{number_of}
use Rattle.script_lines.specs.Shape.{Shape, the, a_name, a_number, a_given, any_number}

pub data Form : Type 0 where
  plug : Form
  pull : Form
  reset : Form
  turn : Form
  hold : Form
  settle : Form
  config_root : Form
  config_gap : Form
  config_both : Form
  csr_read : Form
  csr_write : Form
  csr_lock : Form
  look : Form
  allocate : Form
  release : Form
  manager : Form
  plan : Form
  maps : Form
  delay : Form
  times_2000 : Form
  times_1995 : Form
  clock_paced : Form
  clock_first : Form

-- all of them
abbrev pub forms : List Form
forms =
    plug ∷ pull ∷ reset ∷ turn ∷ hold ∷ settle ∷ config_root ∷ config_gap ∷ config_both ∷ csr_read
    ∷ csr_write ∷ csr_lock ∷ look ∷ allocate ∷ release ∷ manager ∷ plan ∷ maps ∷ delay
    ∷ times_2000 ∷ times_1995 ∷ clock_paced ∷ clock_first ∷ []

-- the words of each form
abbrev pub shapes : Form → List Shape
shapes plug = the (codes "plug") ∷ a_name ∷ any_number ∷ a_name ∷ any_number ∷ []
shapes pull = the (codes "pull") ∷ a_name ∷ any_number ∷ []
shapes reset = the (codes "reset") ∷ a_name ∷ []
shapes turn = the (codes "turn") ∷ a_number 1 2000000 ∷ []
shapes hold = the (codes "hold") ∷ a_name ∷ any_number ∷ a_number 1 65535 ∷ []
shapes settle = the (codes "settle") ∷ []
shapes config_root = the (codes "config") ∷ a_name ∷ a_given 0 62 ∷ the (codes "-") ∷ []
shapes config_gap = the (codes "config") ∷ a_name ∷ the (codes "-") ∷ a_given 0 63 ∷ []
shapes config_both = the (codes "config") ∷ a_name ∷ a_given 0 62 ∷ a_given 0 63 ∷ []
shapes csr_read = the (codes "csr") ∷ a_name ∷ the (codes "read") ∷ any_number ∷ []
shapes csr_write =
    the (codes "csr") ∷ a_name ∷ the (codes "write") ∷ any_number ∷ any_number ∷ []
shapes csr_lock =
    the (codes "csr") ∷ a_name ∷ the (codes "lock") ∷ any_number ∷ a_number 0 255 ∷ any_number
    ∷ any_number ∷ []
shapes look = the (codes "look") ∷ a_name ∷ []
shapes allocate = the (codes "allocate") ∷ a_name ∷ a_number 0 63 ∷ a_number 0 4915 ∷ []
shapes release = the (codes "release") ∷ a_name ∷ a_number 0 63 ∷ a_number 0 4915 ∷ []
shapes manager = the (codes "manager") ∷ a_name ∷ []
shapes plan = the (codes "plan") ∷ a_name ∷ []
shapes maps = the (codes "maps") ∷ a_name ∷ []
shapes delay = the (codes "delay") ∷ a_number 1 16 ∷ []
shapes times_2000 = the (codes "times") ∷ the (codes "1394a") ∷ a_number 1 4294967295 ∷ []
shapes times_1995 = the (codes "times") ∷ the (codes "1394-1995") ∷ a_number 1 4294967295 ∷ []
shapes clock_paced = the (codes "clock") ∷ a_name ∷ a_number 1 1000000 ∷ []
shapes clock_first =
    the (codes "clock") ∷ a_name ∷ a_number 1 1000000 ∷ a_number 1 2000000 ∷ []

-- the word at a place, counted from 0
abbrev pub word_at : List (List ℕ) → ℕ → List ℕ
word_at words place = unwrap_or (slice_get words place) []

-- the number at a place
abbrev pub number_at : List (List ℕ) → ℕ → ℕ
number_at words place = unwrap_or (number_of (word_at words place)) 0

-- the command that the words of each form say
abbrev pub command_of : Form → List (List ℕ) → Command
command_of plug ws = Plug (word_at ws 1) (number_at ws 2) (word_at ws 3) (number_at ws 4)
command_of pull ws = Pull (word_at ws 1) (number_at ws 2)
command_of reset ws = Reset (word_at ws 1)
command_of turn ws = Turn (number_at ws 1)
command_of hold ws = Hold (word_at ws 1) (number_at ws 2) (number_at ws 3)
command_of settle ws = Settle
command_of config_root ws = Config (word_at ws 1) (Some (number_at ws 2)) None
command_of config_gap ws = Config (word_at ws 1) None (Some (number_at ws 3))
command_of config_both ws = Config (word_at ws 1) (Some (number_at ws 2)) (Some (number_at ws 3))
command_of csr_read ws = CsrRead (word_at ws 1) (number_at ws 3)
command_of csr_write ws = CsrWrite (word_at ws 1) (number_at ws 3) (number_at ws 4)
command_of csr_lock ws =
    CsrLock (word_at ws 1) (number_at ws 3) (number_at ws 4) (number_at ws 5) (number_at ws 6)
command_of look ws = Look (word_at ws 1)
command_of allocate ws = Allocate (word_at ws 1) (number_at ws 2) (number_at ws 3)
command_of release ws = Release (word_at ws 1) (number_at ws 2) (number_at ws 3)
command_of manager ws = Manager (word_at ws 1)
command_of plan ws = Plan (word_at ws 1)
command_of maps ws = Maps (word_at ws 1)
command_of delay ws = Delay (number_at ws 1)
command_of times_2000 ws = Times Ieee2000 (number_at ws 2)
command_of times_1995 ws = Times Ieee1995 (number_at ws 2)
command_of clock_paced ws = Clock (word_at ws 1) (number_at ws 2) None
command_of clock_first ws = Clock (word_at ws 1) (number_at ws 2) (Some (number_at ws 3))
