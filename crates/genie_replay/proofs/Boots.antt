-- Reading the boot part line by line.
use Rattle.std.proofs.Common.{◌≡◌, ℕ, ◌+◌, ◌<◌, ◌≤◌, true, false, List, [], ◌∷◌, length, refl, ap, ◌∙◌, arith}
use Rattle.std.specs.Prelude.{Option, Some, None, Ok}
use Rattle.std.proofs.lemmas.Bool.Decides.{nat_tests}
use Rattle.genie_host.specs.Host.{HostView, OnlyHandle}
use Rattle.genie_host.specs.OnlyHandle.{only_refl, only_trans}
use Rattle.genie_script.specs.Judge.{Part, Booted, Refused, boot_part, device_part, device_said, first_said, has_place, is_device_text, is_long, stays, with_device}
use Rattle.genie_script.specs.Lines.{line_of}
use Rattle.genie_script.specs.Texts.{lines_of}
use Rattle.genie_script.specs.declared.judge.BootLine.{BootLine}
use Rattle.genie_script.specs.declared.judge.Ending.{Ending}
use Rattle.genie_script.specs.declared.judge.Ending.TheVariants as ending
use Rattle.genie_script.specs.declared.judge.Judged.TheVariants.{Passed, Taken, Ends}
use Rattle.genie_script.specs.declared.line.DeviceLine.{DeviceLine}
use Rattle.genie_replay.specs.declared.booting.BootRead.TheVariants as read
use Rattle.genie_replay.specs.declared.booting.Found.TheVariants as found
use Rattle.genie_replay.specs.declared.script.LineStep.{LineStep}
use Rattle.genie_replay.specs.declared.script.LineStep.TheVariants.{Line, End, TooLong}
use Rattle.genie_replay.specs.Booting.{FindsBoot, ReadsDevices}
use Rattle.genie_replay.specs.Lines.{IsPending, TakesLine}
use Rattle.genie_replay.specs.Places.{IsPlaced}
use Rattle.genie_replay.specs.Lemmas.Placing.{placed_more}
use Rattle.genie_replay.specs.Lemmas.Remaining.{long_bytes, long_number, not_long}

-- the boot part of the text is that of what is left of it
abbrev pub SameBoot : Option (List ℕ) → Option (List ℕ) → ℕ → Type 0
SameBoot None pending at = Unit {0}
SameBoot (Some text) None at = ⊥
SameBoot (Some text) (Some rest) at = (script : List ℕ) → boot_part script 0 (lines_of text) ≡ boot_part script at (lines_of rest)

same_none : (text : Option (List ℕ)) → SameBoot text text 0
same_none None = tt
same_none (Some text) = λ script. refl

-- looking for the boot line, so far
pub record Looking (old now : HostView) (text pending : Option (List ℕ)) (at : ℕ) : Type 0 where
  pub only : OnlyHandle 1 old now
  pub count : (now.handle 1).faults ≡ (old.handle 1).faults
  pub same : SameBoot text pending at

pub looking_none : (v : HostView) (text : Option (List ℕ)) → Looking v v text text 0
looking_none v text = record { only = only_refl 1 v; count = refl; same = same_none text }

same_passed : (E : Type 0) (text p q : Option (List ℕ)) (line : List ℕ) (at : ℕ) → SameBoot text p at → TakesLine {E = E} p q (Ok Line) line → at < 1000000 → Passed ≡ first_said at (line_of line) → SameBoot text q (at + 1)
same_passed E None p q line at s t few said = tt
same_passed E (Some text) None q line at s t few said = absurd s
same_passed E (Some text) (Some p) None line at s t few said = absurd t
same_passed E (Some text) (Some p) (Some q) line at s t few said = λ script. s script ∙ ap (boot_part script at) t.0 ∙ rw (not_long at line few t.1, ← said) refl

pub looking_more : (E : Type 0) (old u w : HostView) (text p q : Option (List ℕ)) (line : List ℕ) (at : ℕ)
    → Looking old u text p at → OnlyHandle 1 u w → (w.handle 1).faults ≡ (u.handle 1).faults → TakesLine {E = E} p q (Ok Line) line → at < 1000000 → Passed ≡ first_said at (line_of line) → Looking old w text q (at + 1)
looking_more E old u w text p q line at so only count t few said = record {
  only = only_trans 1 old u w so.only only;
  count = count ∙ so.count;
  same = same_passed E text p q line at so.same t few said;
}

pub found_boot : (E F : Type 0) (text p q : Option (List ℕ)) (line : List ℕ) (at : ℕ) (b : BootLine) → SameBoot text p at → TakesLine {E = E} p q (Ok Line) line → at < 1000000 → Taken b ≡ first_said at (line_of line) → FindsBoot {E = F} text q (Ok (found.Boot b (at + 1)))
found_boot E F None p q line at b s t few said = tt
found_boot E F (Some text) None q line at b s t few said = absurd s
found_boot E F (Some text) (Some p) None line at b s t few said = absurd t
found_boot E F (Some text) (Some p) (Some q) line at b s t few said = λ script. s script ∙ ap (boot_part script at) t.0 ∙ rw (not_long at line few t.1, ← said) refl

pub found_end : (E F : Type 0) (text p q : Option (List ℕ)) (line : List ℕ) (at : ℕ) (e : Ending) → SameBoot text p at → TakesLine {E = E} p q (Ok Line) line → at < 1000000 → Ends e ≡ first_said at (line_of line) → FindsBoot {E = F} text q (Ok (found.Refused e))
found_end E F None p q line at e s t few said = tt
found_end E F (Some text) None q line at e s t few said = absurd s
found_end E F (Some text) (Some p) None line at e s t few said = absurd t
found_end E F (Some text) (Some p) (Some q) line at e s t few said = λ script. s script ∙ ap (boot_part script at) t.0 ∙ rw (not_long at line few t.1, ← said) refl

pub found_none : (E F : Type 0) (text p q : Option (List ℕ)) (line : List ℕ) (at : ℕ) → SameBoot text p at → TakesLine {E = E} p q (Ok End) line → FindsBoot {E = F} text q (Ok (found.Refused (ending.BadBoot 0)))
found_none E F None p q line at s t = tt
found_none E F (Some text) None q line at s t = absurd s
found_none E F (Some text) (Some p) None line at s t = absurd t
found_none E F (Some text) (Some p) (Some q) line at s t = λ script. s script ∙ ap (boot_part script at) t

over_first : (script long : List ℕ) (more : List (List ℕ)) (at : ℕ) → is_long at long ≡ true → boot_part script at (long ∷ more) ≡ Refused ending.TooLong
over_first script long more at over = rw over refl

pub found_long : (E F : Type 0) (text p q : Option (List ℕ)) (line : List ℕ) (at : ℕ) → SameBoot text p at → TakesLine {E = E} p q (Ok TooLong) line → FindsBoot {E = F} text q (Ok (found.Refused ending.TooLong))
found_long E F None p q line at s t = tt
found_long E F (Some text) None q line at s t = absurd s
found_long E F (Some text) (Some p) None line at s t = absurd t
found_long E F (Some text) (Some p) (Some q) line at s t = λ script. s script ∙ ap (boot_part script at) t.2 ∙ over_first script t.0 t.1 at (long_bytes at t.0 t.3)

pub found_many : (E F : Type 0) (text p q : Option (List ℕ)) (line : List ℕ) (at : ℕ) → SameBoot text p at → TakesLine {E = E} p q (Ok Line) line → 1000000 ≤ at → FindsBoot {E = F} text q (Ok (found.Refused ending.TooLong))
found_many E F None p q line at s t many = tt
found_many E F (Some text) None q line at s t many = absurd s
found_many E F (Some text) (Some p) None line at s t many = absurd t
found_many E F (Some text) (Some p) (Some q) line at s t many = λ script. s script ∙ ap (boot_part script at) t.0 ∙ over_first script line (lines_of q) at (long_number at line many)

-- the device part of the text is that of what is left of it, behind these lines
abbrev pub SameDevices : List ℕ → Part → ℕ → Option (List ℕ) → Option (List ℕ) → Part → ℕ → Type 0
SameDevices script first before None pending part at = Unit {0}
SameDevices script first before (Some text) None part at = ⊥
SameDevices script first before (Some text) (Some rest) part at = device_part script first before (lines_of text) ≡ device_part script part at (lines_of rest)

devices_none : (script : List ℕ) (part : Part) (before : ℕ) (text : Option (List ℕ)) → SameDevices script part before text text part before
devices_none script part before None = tt
devices_none script part before (Some text) = refl

-- reading device lines, so far
pub record Adding (script : List ℕ) (first : Part) (before : ℕ) (old now : HostView) (text pending : Option (List ℕ)) (part : Part) (at : ℕ) : Type 0 where
  pub only : OnlyHandle 1 old now
  pub count : (now.handle 1).faults ≡ (old.handle 1).faults
  pub same : SameDevices script first before text pending part at
  pub placed : IsPlaced part

pub adding_none : (script : List ℕ) (part : Part) (before : ℕ) (v : HostView) (text : Option (List ℕ)) → IsPlaced part → Adding script part before v v text text part before
adding_none script part before v text placed = record { only = only_refl 1 v; count = refl; same = devices_none script part before text; placed = placed }

stays_here : (at : ℕ) (line : List ℕ) → at < 1000000 → length line ≤ 8300 → is_device_text line ≡ true → stays at line ≡ true
stays_here at line few short is = rw (is, not_long at line few short) refl

devices_passed : (E : Type 0) (script : List ℕ) (first : Part) (before : ℕ) (text p q : Option (List ℕ)) (line : List ℕ) (part : Part) (at : ℕ)
    → SameDevices script first before text p part at → TakesLine {E = E} p q (Ok Line) line → at < 1000000 → is_device_text line ≡ true → Passed ≡ device_said script part at (line_of line) → SameDevices script first before text q part (at + 1)
devices_passed E script first before None p q line part at s t few is said = tt
devices_passed E script first before (Some text) None q line part at s t few is said = absurd s
devices_passed E script first before (Some text) (Some p) None line part at s t few is said = absurd t
devices_passed E script first before (Some text) (Some p) (Some q) line part at s t few is said = s ∙ ap (device_part script part at) t.0 ∙ rw (stays_here at line few t.1 is, ← said) refl

devices_added : (E : Type 0) (script : List ℕ) (first : Part) (before : ℕ) (text p q : Option (List ℕ)) (line : List ℕ) (part : Part) (at : ℕ) (d : DeviceLine)
    → SameDevices script first before text p part at → TakesLine {E = E} p q (Ok Line) line → at < 1000000 → is_device_text line ≡ true → Taken d ≡ device_said script part at (line_of line) → SameDevices script first before text q (with_device part d) (at + 1)
devices_added E script first before None p q line part at d s t few is said = tt
devices_added E script first before (Some text) None q line part at d s t few is said = absurd s
devices_added E script first before (Some text) (Some p) None line part at d s t few is said = absurd t
devices_added E script first before (Some text) (Some p) (Some q) line part at d s t few is said = s ∙ ap (device_part script part at) t.0 ∙ rw (stays_here at line few t.1 is, ← said) refl

pub adding_passed : (E : Type 0) (script : List ℕ) (first : Part) (before : ℕ) (old u w : HostView) (text p q : Option (List ℕ)) (line : List ℕ) (part : Part) (at : ℕ)
    → Adding script first before old u text p part at → OnlyHandle 1 u w → (w.handle 1).faults ≡ (u.handle 1).faults → TakesLine {E = E} p q (Ok Line) line → at < 1000000 → is_device_text line ≡ true → Passed ≡ device_said script part at (line_of line)
    → Adding script first before old w text q part (at + 1)
adding_passed E script first before old u w text p q line part at so only count t few is said = record {
  only = only_trans 1 old u w so.only only;
  count = count ∙ so.count;
  same = devices_passed E script first before text p q line part at so.same t few is said;
  placed = so.placed;
}

pub adding_device : (E : Type 0) (script : List ℕ) (first : Part) (before : ℕ) (old u w : HostView) (text p q : Option (List ℕ)) (line : List ℕ) (part after : Part) (at : ℕ) (d : DeviceLine)
    → Adding script first before old u text p part at → OnlyHandle 1 u w → (w.handle 1).faults ≡ (u.handle 1).faults → TakesLine {E = E} p q (Ok Line) line → at < 1000000 → is_device_text line ≡ true → Taken d ≡ device_said script part at (line_of line) → after ≡ with_device part d → has_place part.config d ≡ true
    → Adding script first before old w text q after (at + 1)
adding_device E script first before old u w text p q line part after at d so only count t few is said added has = rw added (record {
  only = only_trans 1 old u w so.only only;
  count = count ∙ so.count;
  same = devices_added E script first before text p q line part at d so.same t few is said;
  placed = placed_more part d so.placed has;
})

pub devices_refused : (E F : Type 0) (script : List ℕ) (first : Part) (before : ℕ) (text p q : Option (List ℕ)) (line : List ℕ) (part : Part) (at : ℕ) (e : Ending)
    → SameDevices script first before text p part at → TakesLine {E = E} p q (Ok Line) line → at < 1000000 → is_device_text line ≡ true → Ends e ≡ device_said script part at (line_of line) → ReadsDevices {E = F} script first before text q line (Ok (read.Refused e))
devices_refused E F script first before None p q line part at e s t few is said = tt
devices_refused E F script first before (Some text) None q line part at e s t few is said = absurd s
devices_refused E F script first before (Some text) (Some p) None line part at e s t few is said = absurd t
devices_refused E F script first before (Some text) (Some p) (Some q) line part at e s t few is said = s ∙ ap (device_part script part at) t.0 ∙ rw (stays_here at line few t.1 is, ← said) refl

-- the line that was read ends the part: there is none, it isn't a device line, or it is too long
abbrev pub Leaves : LineStep → List ℕ → ℕ → Type 0
Leaves Line line at = stays at line ≡ false
Leaves End line at = Unit {0}
Leaves TooLong line at = Unit {0}

left_at : (script : List ℕ) (part : Part) (at : ℕ) (lines : List (List ℕ)) (step : LineStep) (line rest : List ℕ) → IsPending lines step line rest → Leaves step line at → device_part script part at lines ≡ Booted part at lines
left_at script part at [] step line rest p l = refl
left_at script part at (x ∷ xs) Line line rest p l =
    let first : x ≡ line = cc in
    rw (first, l) refl
left_at script part at (x ∷ xs) End line rest p l = absurd (cc)
left_at script part at (x ∷ xs) TooLong line rest p l =
    let first : x ≡ p.0 = cc in
    rw (first, long_bytes at p.0 p.3) (grind arith)

pub devices_whole : (E F : Type 0) (script : List ℕ) (first : Part) (before : ℕ) (text p q : Option (List ℕ)) (step : LineStep) (line : List ℕ) (part : Part) (at : ℕ)
    → SameDevices script first before text p part at → TakesLine {E = E} p q (Ok step) line → Leaves step line at → ReadsDevices {E = F} script first before text q line (Ok (read.Whole part step at))
devices_whole E F script first before None p q step line part at s t l = tt
devices_whole E F script first before (Some text) None q step line part at s t l = absurd s
devices_whole E F script first before (Some text) (Some p) None step line part at s t l = absurd t
devices_whole E F script first before (Some text) (Some p) (Some q) step line part at s t l = record { lines = lines_of p; is = s ∙ left_at script part at (lines_of p) step line q t l; pending = t }

pub leaves_other : (line : List ℕ) (at : ℕ) → is_device_text line ≡ false → Leaves Line line at
leaves_other line at is = rw is refl

pub leaves_many : (step : LineStep) (line : List ℕ) (at : ℕ) → 1000000 ≤ at → Leaves step line at
leaves_many Line line at many = rw (long_number at line many) (grind arith)
leaves_many End line at many = tt
leaves_many TooLong line at many = tt
