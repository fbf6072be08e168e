-- A boot part that is whole keeps every limit, and events are whole.
use Rattle.std.proofs.Common.{◌≡◌, ℕ, ◌+◌, Bool, true, false, cond, IsTrue, List, [], ◌∷◌, Option, Some, None, refl, subst}
use Rattle.std.specs.Prelude.{All, ⊤}
use Rattle.std.proofs.lemmas.List.Elements.{All-nil, All-cons}
use Rattle.genie_base.specs.Configs.{Fits}
use Rattle.genie_base.specs.Events.{is_whole}
use Rattle.genie_base.specs.declared.event.Event.{Event}
use Rattle.genie_script.specs.declared.judge.BootLine.{BootLine}
use Rattle.genie_script.specs.declared.judge.Ending.{Ending}
use Rattle.genie_script.specs.declared.judge.Judged.{Judged}
use Rattle.genie_script.specs.declared.judge.Judged.TheVariants.{Passed, Taken, Ends}
use Rattle.genie_script.specs.declared.line.DeviceLine.{DeviceLine}
use Rattle.genie_script.specs.declared.line.Line.{Line}
use Rattle.genie_script.specs.declared.line.Line.TheVariants as line
use Rattle.genie_script.specs.Judge.{Boot, Refused, Booted, IfTaken, Numbered, Part, boot_fits, boot_part, device_part, device_said, event_judged, event_said, events_from, first_judged, first_said, is_bounded, is_long, on_judged, part_of, stays, with_device}
use Rattle.genie_script.specs.Limits.{ScriptsKeepLimits}
use Rattle.genie_script.specs.Lines.{line_of, is_whole_line}
use Rattle.genie_script.specs.Texts.{lines_of}
use Rattle.genie_script.proofs.Bounds.{boot_fit, bounded_limits, limits_fit}
use Rattle.genie_script.proofs.Each.{Each}
use Rattle.genie_script.proofs.Whole.{line_whole}

-- P holds of what the rest comes to, where P holds of what each line that is taken comes to
judged : {X Y : Type 0} (T : X → Type 0) (P : Y → Type 0) (j : Judged X) (passed : Y) (taken : X → Y) (ends : Ending → Y) → IfTaken j T → P passed → ((x : X) → T x → P (taken x)) → ((e : Ending) → P (ends e)) → P (on_judged j passed taken ends)
judged T P Passed passed taken ends t p h e = p
judged T P (Taken x) passed taken ends t p h e = h x t
judged T P (Ends ending) passed taken ends t p h e = e ending

-- a line that isn't too long
short : {X : Type 0} (T : X → Type 0) (long : Bool) (e : Ending) (j : Judged X) → IfTaken j T → IfTaken (cond long (Ends e) j) T
short T true e j t = tt
short T false e j t = t

allowed : {X : Type 0} (P : X → Type 0) (b : Bool) (x : X) (e : Ending) → (b ≡ true → P x) → IfTaken (cond b (Taken x) (Ends e)) P
allowed P true x e p = p refl
allowed P false x e p = tt

-- every limit is kept, where the boot part is whole
abbrev FitsBooted : Boot → Type 0
FitsBooted (Refused ending) = ⊤
FitsBooted (Booted part before lines) = Fits part.config

first_fits : (before : ℕ) (o : Option Line) → IfTaken (first_said before o) (λ b. boot_fits b ≡ true)
first_fits before None = tt
first_fits before (Some line.Blank) = tt
first_fits before (Some (line.Boot page frames slots cout rcout)) =
    let b : BootLine = record { page = page; frames = frames; slots = slots; cout = cout; rcout = rcout } in
    allowed (λ (c : BootLine). boot_fits c ≡ true) (boot_fits b) b _ (λ t. t)
first_fits before (Some (line.Device d)) = tt
first_fits before (Some (line.Event e)) = tt

device_fits : (script : List ℕ) (p : Part) (before : ℕ) (o : Option Line) → IfTaken (device_said script p before o) (λ d. is_bounded script p d ≡ true)
device_fits script p before None = tt
device_fits script p before (Some line.Blank) = tt
device_fits script p before (Some (line.Boot page frames slots cout rcout)) = tt
device_fits script p before (Some (line.Device d)) = allowed (λ (c : DeviceLine). is_bounded script p c ≡ true) (is_bounded script p d) d _ (λ t. t)
device_fits script p before (Some (line.Event e)) = tt

ended : (b : Bool) (boot : Boot) (p : Part) (before : ℕ) (lines : List (List ℕ)) → FitsBooted boot → Fits p.config → FitsBooted (cond b boot (Booted p before lines))
ended true boot p before lines h f = h
ended false boot p before lines h f = f

devices_fit : (script : List ℕ) (p : Part) (before : ℕ) (lines : List (List ℕ)) → Fits p.config → FitsBooted (device_part script p before lines)
devices_fit script p before [] f = f
devices_fit script p before (text ∷ lines) f =
    ended (stays before text) _ p before (text ∷ lines) (
    judged (λ (d : DeviceLine). is_bounded script p d ≡ true) FitsBooted (device_said script p before (line_of text)) _ (λ d. device_part script (with_device p d) (before + 1) lines) Refused (device_fits script p before (line_of text))
    (devices_fit script p (before + 1) lines f)
    (λ d t. devices_fit script (with_device p d) (before + 1) lines (limits_fit p.config d f (bounded_limits script p d t)))
    (λ e. tt)) f

boot_fits_all : (script : List ℕ) (before : ℕ) (lines : List (List ℕ)) → FitsBooted (boot_part script before lines)
boot_fits_all script before [] = tt
boot_fits_all script before (text ∷ lines) =
    judged (λ (b : BootLine). boot_fits b ≡ true) FitsBooted (first_judged before text) _ (λ b. device_part script (part_of b) (before + 1) lines) Refused
    (short (λ (b : BootLine). boot_fits b ≡ true) (is_long before text) _ (first_said before (line_of text)) (first_fits before (line_of text)))
    (boot_fits_all script (before + 1) lines)
    (λ b t. devices_fit script (part_of b) (before + 1) lines (boot_fit b t))
    (λ e. tt)

event_whole : (before : ℕ) (o : Option Line) → Each (λ l. is_whole_line l ≡ true) o → IfTaken (event_said before o) (λ e. IsTrue (is_whole e))
event_whole before None h = tt
event_whole before (Some line.Blank) h = tt
event_whole before (Some (line.Boot page frames slots cout rcout)) h = tt
event_whole before (Some (line.Device d)) h = tt
event_whole before (Some (line.Event e)) h = h (line.Event e) refl

abbrev IsWhole : Numbered → Type 0
IsWhole n = IsTrue (is_whole n.1)

events_whole : (before : ℕ) (lines : List (List ℕ)) → All IsWhole (events_from before lines)
events_whole before [] = All-nil IsWhole
events_whole before (text ∷ lines) =
    judged (λ (e : Event). IsTrue (is_whole e)) (All IsWhole) (event_judged before text) _ (λ e. (before + 1, e) ∷ events_from (before + 1) lines) (λ e. [])
    (short (λ (e : Event). IsTrue (is_whole e)) (is_long before text) _ (event_said before (line_of text)) (event_whole before (line_of text) (line_whole text)))
    (events_whole (before + 1) lines)
    (λ e t. All-cons IsWhole (before + 1, e) (events_from (before + 1) lines) t (events_whole (before + 1) lines))
    (λ e. All-nil IsWhole)

pub scripts_keep_limits : ScriptsKeepLimits
scripts_keep_limits script text part before lines e = record { fits = subst FitsBooted e (boot_fits_all script 0 (lines_of text)); whole = events_whole before lines }
