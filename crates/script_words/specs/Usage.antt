-- The lines of a script as docs write them: a word in capitals stands for a name or a number, and every
-- other word for itself.
use Rattle.std.specs.Prelude.{◌≡◌, ℕ, ◌||◌, Bool, List, [], ◌∷◌, codes, map, Option, Some, None, if◌then◌else◌}
use Rattle.std.specs.Str.{bytes_eq}
use Rattle.script_lines.specs.Words.{words_of}
use Rattle.script_lines.specs.Shape.{Shape, the, a_name, a_number, a_given}
use Rattle.script_lines.specs.Form.{forms, shapes}
use Rattle.script_lines.specs.Node.{node_shapes}

unfoldable pub usages : List (List ℕ)
usages =
    codes "node NAME PORTS" ∷ codes "plug NAME PORT NAME PORT" ∷ codes "pull NAME PORT"
    ∷ codes "reset NAME" ∷ codes "turn COUNT" ∷ codes "hold NAME PORT TURNS" ∷ codes "settle"
    ∷ codes "config NAME ROOT -" ∷ codes "config NAME - GAP" ∷ codes "config NAME ROOT GAP"
    ∷ codes "csr NAME read OFFSET" ∷ codes "csr NAME write OFFSET VALUE"
    ∷ codes "csr NAME lock OFFSET KIND ARG VALUE" ∷ codes "look NAME"
    ∷ codes "allocate NAME CHANNEL UNITS" ∷ codes "release NAME CHANNEL UNITS"
    ∷ codes "manager NAME" ∷ codes "plan NAME" ∷ codes "maps NAME" ∷ codes "delay D"
    ∷ codes "times 1394a NANOSECONDS" ∷ codes "times 1394-1995 NANOSECONDS"
    ∷ codes "clock NAME PPM" ∷ codes "clock NAME PPM TURN" ∷ []

-- the least and the greatest number that a word in capitals stands for
abbrev pub range_of : List ℕ → Option (ℕ × ℕ)
range_of word =
    if bytes_eq word (codes "PORTS") then Some (1, 16)
    else if bytes_eq word (codes "PORT") then Some (0, 4294967295)
    else if bytes_eq word (codes "COUNT") then Some (1, 2000000)
    else if bytes_eq word (codes "TURNS") then Some (1, 65535)
    else if bytes_eq word (codes "ROOT") then Some (0, 62)
    else if bytes_eq word (codes "GAP") then Some (0, 63)
    else if bytes_eq word (codes "OFFSET") then Some (0, 4294967295)
    else if bytes_eq word (codes "VALUE") then Some (0, 4294967295)
    else if bytes_eq word (codes "ARG") then Some (0, 4294967295)
    else if bytes_eq word (codes "KIND") then Some (0, 255)
    else if bytes_eq word (codes "CHANNEL") then Some (0, 63)
    else if bytes_eq word (codes "UNITS") then Some (0, 4915)
    else if bytes_eq word (codes "D") then Some (1, 16)
    else if bytes_eq word (codes "NANOSECONDS") then Some (1, 4294967295)
    else if bytes_eq word (codes "PPM") then Some (1, 1000000)
    else if bytes_eq word (codes "TURN") then Some (1, 2000000)
    else None

-- these two may be left out, by a `-`
abbrev pub is_choice : List ℕ → Bool
is_choice word = bytes_eq word (codes "ROOT") || bytes_eq word (codes "GAP")

abbrev pub number_shape : List ℕ → Option (ℕ × ℕ) → Shape
number_shape word None = the word
number_shape word (Some (least, most)) =
    if is_choice word then a_given least most else a_number least most

-- what may stand for a word of a usage
abbrev pub shape_of : List ℕ → Shape
shape_of word = if bytes_eq word (codes "NAME") then a_name else number_shape word (range_of word)

abbrev pub shapes_of : List ℕ → List Shape
shapes_of usage = map shape_of (words_of usage)

-- they are the forms of lines
abbrev pub UsagesAreForms : Type 0
UsagesAreForms = map shapes_of usages ≡ node_shapes ∷ map shapes forms
