-- The code and the text of each status.
use Rattle.std.specs.Prelude.{ℕ, ◌==◌, List, [], ◌++◌, codes, decimal, if◌then◌else◌}
use Rattle.genie_script.specs.declared.judge.Ending.{Ending}
use Rattle.genie_script.specs.declared.judge.Ending.TheVariants as ending
use Rattle.genie_replay.specs.declared.status.Status.{Status}
use Rattle.genie_replay.specs.declared.status.Status.TheVariants.{Done, Usage, BadLine, HostFault, NoMemory, TooLong, BadBoot}

abbrev pub code_of : Status → ℕ
code_of Done = 0
code_of Usage = 1
code_of (BadLine l) = 2
code_of HostFault = 3
code_of NoMemory = 4
code_of TooLong = 5
code_of (BadBoot l) = 6

-- a line outside the boot's bounds, or no boot line at all
abbrev pub boot_text : ℕ → List ℕ
boot_text l = if l == 0 then codes "no boot line" else codes "line " ++ decimal l ++ codes " breaks a boot bound"

abbrev pub status_text : Status → List ℕ
status_text Done = []
status_text Usage = codes "usage: genie replay SCRIPT, genie cost SCRIPT or genie make SEED ROUNDS"
status_text (BadLine l) = codes "line " ++ decimal l ++ codes " is not a script line"
status_text HostFault = codes "a file or the store failed"
status_text NoMemory = codes "no memory"
status_text TooLong = codes "script too long"
status_text (BadBoot l) = boot_text l

-- the status of a run that came to the script's end
abbrev pub status_of : Ending → Status
status_of ending.End = Done
status_of (ending.BadLine l) = BadLine l
status_of ending.TooLong = TooLong
status_of (ending.BadBoot l) = BadBoot l
