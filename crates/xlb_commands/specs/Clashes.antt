-- Files that would be written over others by one command, or over what is there: mistakes of the command line.
use Rattle.std.specs.Prelude.{◌≡◌, ◌≢◌, ◌⊎◌, ◌++◌, ℕ, Bool, false, true, List, Option, Some, codes}
use Rattle.command_line.specs.Reading.{text_of}
use Rattle.command_line.specs.declared.commands.ReplayFiles.{ReplayFiles}
use Rattle.command_line.specs.declared.commands.RunFiles.{RunFiles}
use Rattle.command_line.specs.declared.commands.Settings.{Settings}
use Rattle.command_line.specs.declared.commands.Settings.TheVariants.{Run, Asm, Replay}
use Rattle.xlb_commands.specs.Printable.{in_one_line}

-- a replay reads the file of this name
abbrev pub IsReplayInput : ReplayFiles → List ℕ → Type 0
IsReplayInput files name = (name ≡ files.capture.now) ⊎ ((text_of files.image ≡ Some name) ⊎ (text_of files.script ≡ Some name))

-- a replay writes the file of this name before the report
abbrev pub IsWrittenBefore : ReplayFiles → List ℕ → Type 0
IsWrittenBefore files name = (name ≡ files.sent.now) ⊎ (text_of files.journals ≡ Some name)

-- a replay reads the file of this name, or writes it before the report
abbrev pub IsBeforeReport : ReplayFiles → List ℕ → Type 0
IsBeforeReport files other = IsReplayInput files other ⊎ IsWrittenBefore files other

-- a replay writes the file of the first name, and reads that of the second, or writes it before: it writes the sent frames, the journals,
-- the report and what the maps hold, in this order
abbrev pub IsOverEarlier : ReplayFiles → List ℕ → List ℕ → Type 0
IsOverEarlier files written other = ((written ≡ files.sent.now) × IsReplayInput files other)
    ⊎ (((text_of files.journals ≡ Some written) × (IsReplayInput files other ⊎ (other ≡ files.sent.now)))
    ⊎ (((text_of files.report ≡ Some written) × IsBeforeReport files other)
    ⊎ ((text_of files.maps ≡ Some written) × (IsBeforeReport files other ⊎ (text_of files.report ≡ Some other)))))

-- a replay writes the file of the first name, and that of the second after it
abbrev pub IsOverLater : ReplayFiles → List ℕ → List ℕ → Type 0
IsOverLater files written other = ((text_of files.journals ≡ Some other) × (written ≡ files.sent.now))
    ⊎ (((text_of files.report ≡ Some other) × IsWrittenBefore files written)
    ⊎ ((text_of files.maps ≡ Some other) × (IsWrittenBefore files written ⊎ (text_of files.report ≡ Some written))))

-- a replay writes the file of the first name, and reads or writes that of the second. Of two that it writes both orders count: the name that
-- either has until it is finished may be the other's
abbrev pub IsOverInReplay : ReplayFiles → List ℕ → List ℕ → Type 0
IsOverInReplay files written other = IsOverEarlier files written other ⊎ IsOverLater files written other

-- the two names are these, in either order
abbrev pub AreThese : Option (List ℕ) → Option (List ℕ) → List ℕ → List ℕ → Type 0
AreThese one other first second = ((one ≡ Some first) × (other ≡ Some second)) ⊎ ((one ≡ Some second) × (other ≡ Some first))

-- a run reads the file of this name
abbrev pub IsRunInput : RunFiles → List ℕ → Type 0
IsRunInput files name = (name ≡ files.image.now) ⊎ (name ≡ files.frame.now)

-- a run writes the file of the first name, and reads or writes that of the second: it writes the journals and what the maps hold
abbrev pub IsOverInRun : RunFiles → List ℕ → List ℕ → Type 0
IsOverInRun files written other = ((text_of files.journals ≡ Some written) × IsRunInput files other)
    ⊎ (((text_of files.maps ≡ Some written) × IsRunInput files other) ⊎ AreThese (text_of files.maps) (text_of files.journals) written other)

-- the command writes the file of the first name, and reads or writes that of the second
abbrev pub IsOver : Settings → List ℕ → List ℕ → Type 0
IsOver (Asm text out source) written other = (written ≡ out.now) × (other ≡ text.now)
IsOver (Run files now worker updates) written other = IsOverInRun files written other
IsOver (Replay asked) written other = IsOverInReplay asked.files written other
IsOver settings written other = ⊥

-- the names of what the command writes are no others that it has
abbrev pub AreApart : Settings → Type 0
AreApart settings = (written other : List ℕ) → IsOver settings written other → written ≢ other

-- the line of such a mistake
abbrev pub clash_text : List ℕ → List ℕ → List ℕ
clash_text written other =
    codes "error: " ++ (in_one_line written
    ++ (codes " would be written over " ++ (in_one_line other ++ codes ": they are one file\n")))

-- ---- files that are there already

-- a replay writes the file of this name
abbrev pub IsWrittenInReplay : ReplayFiles → List ℕ → Type 0
IsWrittenInReplay files name = (name ≡ files.sent.now)
    ⊎ ((text_of files.journals ≡ Some name) ⊎ ((text_of files.report ≡ Some name) ⊎ (text_of files.maps ≡ Some name)))

-- the command writes the file of this name, and may write over none
abbrev pub IsWrittenAnew : Settings → List ℕ → Type 0
IsWrittenAnew (Replay asked) name = (asked.no_clobber ≡ true) × IsWrittenInReplay asked.files name
IsWrittenAnew settings name = ⊥

-- the files that it writes so are not there
abbrev pub AreFree : (List ℕ → Bool → Type 0) → Settings → Type 0
AreFree has settings = (name : List ℕ) → IsWrittenAnew settings name → has name false

-- the line of such a mistake
abbrev pub present_text : List ℕ → List ℕ
present_text name = codes "error: " ++ (in_one_line name ++ codes " is there already: --no-clobber writes over no file\n")
