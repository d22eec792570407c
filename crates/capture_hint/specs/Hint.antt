-- What is said of bytes that look like something else than a capture, and what reads them.
use Rattle.std.specs.Prelude.{ℕ, Bool, true, false, if◌then◌else◌, List, [], codes, Option, Some, None}
use Rattle.capture_hint.specs.declared.likeness.Likeness.{Likeness}
use Rattle.capture_hint.specs.declared.likeness.Likeness.TheVariants.{Compressed, Utf16, Marked, Digits, Dump, NumberList, Trace, Script, Rom, TurnedRom, Turned, Halves, Buffer, TopologyMap, Recording, FirstQuadlets, LineFeed}
use Rattle.capture_hint.specs.Likeness.{likeness_of, begins_capture}

abbrev pub hint_text : Option Likeness → List ℕ
hint_text None = []
hint_text (Some Compressed) = codes "This looks like a file that gzip packed. Unpacked: gzip -d\n"
hint_text (Some Utf16) =
    codes "This looks like text of two bytes a character. As plain text: iconv -f UTF-16 -t UTF-8\n"
hint_text (Some Marked) =
    codes "This begins with the mark of three bytes that some editors write. Without it: tail -c +4\n"
hint_text (Some Dump) =
    codes "This looks like a dump of bytes with offsets. Its tree: busview import FILE | busview tree\n"
hint_text (Some Digits) =
    codes "This looks like digits of quadlets. Its tree: busview import FILE | busview tree\n"
hint_text (Some NumberList) =
    codes "This looks like a list of numbers in braces. Its tree: busview import FILE | busview tree\n"
hint_text (Some Trace) =
    codes "This looks like a trace or a log of the Linux kernel. It is read by: busview resets\n"
hint_text (Some Script) =
    codes "This looks like a script. A capture of it: busview capture NAME\n"
hint_text (Some Rom) =
    codes "This looks like a configuration ROM, which isn't a capture. It is read by: busconf rom\n"
hint_text (Some TurnedRom) =
    codes "This looks like a configuration ROM with the bytes of its quadlets turned round.\n"
hint_text (Some Turned) =
    codes "This looks like a capture with the bytes of its quadlets turned round. Its tree: busview import FILE | busview tree\n"
hint_text (Some Halves) =
    codes "This looks like a capture with the halves of its quadlets swapped. Its tree: busview import FILE | busview tree\n"
hint_text (Some Buffer) =
    codes "This looks like the self-ID buffer of an OHCI controller. Its tree: busview import FILE | busview tree\n"
hint_text (Some TopologyMap) =
    codes "This looks like a topology map. Its tree: busview import FILE | busview tree\n"
hint_text (Some Recording) =
    codes "This looks like a recording by nosy-dump. It is read by: busview nosy\n"
hint_text (Some FirstQuadlets) =
    codes "This looks like first quadlets without their inverses. Its tree: busview import FILE | busview tree\n"
hint_text (Some LineFeed) =
    codes "This looks like a capture with a line feed behind it. Its tree: busview import FILE | busview tree\n"

-- whether it is said of bytes where a script or a log is read, and not a capture
abbrev pub is_of_any : Option Likeness → Bool
is_of_any (Some Compressed) = true
is_of_any (Some Utf16) = true
is_of_any (Some Marked) = true
is_of_any (Some Rom) = true
is_of_any (Some Trace) = true
is_of_any (Some Recording) = true
is_of_any likeness = false

-- the hint on bytes that are no script or no log
abbrev pub other_hint : List ℕ → List ℕ
other_hint bytes =
    if begins_capture bytes then codes "This looks like a capture. It is read by: busconf read\n"
    else if is_of_any (likeness_of bytes) then hint_text (likeness_of bytes)
    else []

-- the hint on bytes, or nothing
abbrev pub hint : List ℕ → List ℕ
hint bytes = hint_text (likeness_of bytes)
