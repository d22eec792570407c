-- What a program says of itself.
use Rattle.std.specs.Prelude.{ℕ, List, ◌++◌, codes}
use Rattle.about.specs.declared.TheConstants.{VERSION, KIT, STANDARDS}
use Rattle.about.specs.declared.asked.About.{About}
use Rattle.about.specs.declared.asked.About.TheVariants.{Help, Version}

-- `PROGRAM VERSION`, `kit KIT`, and the standards, a line each
unfoldable pub version_text : List ℕ → List ℕ
version_text program =
    program
    ++ (codes " "
    ++ (VERSION.now
    ++ (codes "\nkit " ++ (KIT.now ++ (codes "\n" ++ (STANDARDS.now ++ codes "\n"))))))

-- the help of the program with this name, or its version
abbrev pub about_text : About → List ℕ → List ℕ → List ℕ
about_text Help program help = help
about_text Version program help = version_text program
