-- Two scripts that are alike line by line say alike.
use Rattle.std.proofs.Common.{◌≡◌, ℕ, ◌+◌, inl, inr, Bool, true, false, cond, List, [], ◌∷◌, Option, Some, None, refl, sym, ap, ◌∙◌, subst}
use Rattle.std.specs.Prelude.{nat_le, not, map, ⊤, ◌||◌, ◌&&◌}
use Rattle.genie_base.specs.declared.event.Event.{Event}
use Rattle.genie_laws.specs.Laws.{SameButLevels, basic_event}
use Rattle.genie_script.specs.declared.judge.BootLine.{BootLine}
use Rattle.genie_script.specs.declared.judge.Ending.{Ending}
use Rattle.genie_script.specs.declared.judge.Ending.TheVariants.{TooLong, BadBoot}
use Rattle.genie_script.specs.declared.judge.Judged.{Judged}
use Rattle.genie_script.specs.declared.judge.Judged.TheVariants.{Passed, Taken, Ends}
use Rattle.genie_script.specs.declared.line.DeviceLine.{DeviceLine}
use Rattle.genie_script.specs.declared.line.Line.{Line}
use Rattle.genie_script.specs.declared.line.Line.TheVariants as line
use Rattle.genie_script.specs.Judge.{Boot, Refused, Booted, Numbered, Part, boot_fits, boot_part, device_part, device_said, ending_from, event_judged, event_said, events_from, first_judged, first_said, is_bounded, is_device_text, is_long, on_judged, part_of, stays, with_device}
use Rattle.genie_script.specs.Laws.{LinesAreReadAgain, SpellingsAreShort}
use Rattle.genie_script.specs.Lines.{line_of}
use Rattle.genie_script.specs.Texts.{lines_of}
use Rattle.genie_replay.specs.Outcome.{events_of}
use Rattle.genie_runs.specs.Texts.{BootAlike, SayAlike, ScriptsSayAlike, TextsSayAlike, boot_line, other_boot}
use Rattle.genie_runs.proofs.Lines.{AllSay, LinesSay, SaidAlike, all_say, both}

-- ---- what two lines come to

-- R of what both lines say, if they say something
abbrev JudgedAlike : {X : Type 0} → (X → X → Type 0) → Judged X → Judged X → Type 0
JudgedAlike R Passed Passed = ⊤
JudgedAlike R (Taken x) (Taken y) = R x y
JudgedAlike R (Ends e) (Ends f) = f ≡ e
JudgedAlike R j k = ⊥

on_both : {X Y : Type 0} (R : X → X → Type 0) (P : Y → Y → Type 0) (j k : Judged X) (a b : Y) (f g : X → Y) (h : Ending → Y) → JudgedAlike R j k → P a b → ((x y : X) → R x y → P (f x) (g y)) → ((e : Ending) → P (h e) (h e)) → P (on_judged j a f h) (on_judged k b g h)
on_both R P Passed Passed a b f g h t p q r = p
on_both R P Passed (Taken y) a b f g h t p q r = absurd t
on_both R P Passed (Ends e) a b f g h t p q r = absurd t
on_both R P (Taken x) Passed a b f g h t p q r = absurd t
on_both R P (Taken x) (Taken y) a b f g h t p q r = q x y t
on_both R P (Taken x) (Ends e) a b f g h t p q r = absurd t
on_both R P (Ends e) Passed a b f g h t p q r = absurd t
on_both R P (Ends e) (Taken y) a b f g h t p q r = absurd t
on_both R P (Ends e) (Ends i) a b f g h t p q r = subst (λ x. P (h e) (h x)) (sym t) (r e)

itself : {X : Type 0} (R : X → X → Type 0) → ((x : X) → R x x) → (j : Judged X) → JudgedAlike R j j
itself R r Passed = tt
itself R r (Taken x) = r x
itself R r (Ends e) = refl

-- the same choice in both
either : {X : Type 0} (P : X → X → Type 0) (b c : Bool) (x y z w : X) → c ≡ b → P x y → P z w → P (cond b x z) (cond c y w)
either P true true x y z w e p q = p
either P true false x y z w e p q = absurd cc
either P false true x y z w e p q = absurd cc
either P false false x y z w e p q = q

same_long : (before : ℕ) (text other : List ℕ) → LinesSay text other → is_long before other ≡ is_long before text
same_long before text other s = ap (λ b. b || nat_le 1000000 before) s.long

-- ---- events

abbrev SameLevel : Event → Event → Type 0
SameLevel e f = basic_event e ≡ basic_event f

event_said_alike : (before : ℕ) (o p : Option Line) → SaidAlike o p → JudgedAlike SameLevel (event_said before o) (event_said before p)
event_said_alike before o p (inl e) = subst (λ x. JudgedAlike SameLevel (event_said before o) (event_said before x)) (sym e) (itself SameLevel (λ x. refl) (event_said before o))
event_said_alike before o p (inr (inl b)) = both (λ x y. JudgedAlike SameLevel (event_said before x) (event_said before y)) b.is b.other_is refl
event_said_alike before o p (inr (inr c)) = both (λ x y. JudgedAlike SameLevel (event_said before x) (event_said before y)) c.is c.other_is (sym c.level)

event_alike : (before : ℕ) (text other : List ℕ) → LinesSay text other → JudgedAlike SameLevel (event_judged before text) (event_judged before other)
event_alike before text other s = either (JudgedAlike SameLevel) (is_long before text) (is_long before other) (Ends TooLong) (Ends TooLong) (event_said before (line_of text)) (event_said before (line_of other)) (same_long before text other s) refl (event_said_alike before (line_of text) (line_of other) s.said)

abbrev SameEvents : List Numbered → List Numbered → Type 0
SameEvents es fs = SameButLevels (events_of es) (events_of fs)

events_alike : (before : ℕ) (lines others : List (List ℕ)) → AllSay lines others → SameEvents (events_from before lines) (events_from before others)
events_alike before [] [] h = refl
events_alike before [] (other ∷ others) h = absurd h
events_alike before (text ∷ lines) [] h = absurd h
events_alike before (text ∷ lines) (other ∷ others) h =
    let rest : SameEvents (events_from (before + 1) lines) (events_from (before + 1) others) = events_alike (before + 1) lines others h.1 in
    on_both SameLevel SameEvents (event_judged before text) (event_judged before other) _ _ (λ e. (before + 1, e) ∷ events_from (before + 1) lines) (λ e. (before + 1, e) ∷ events_from (before + 1) others) (λ ending. []) (event_alike before text other h.0) rest
    (λ e f same. both {X = List Event} (λ x y. x ≡ y) (ap (λ x. x ∷ map basic_event (events_of (events_from (before + 1) lines))) same) refl (ap (λ es. basic_event f ∷ es) rest))
    (λ e. refl)

endings_alike : (before : ℕ) (lines others : List (List ℕ)) → AllSay lines others → ending_from before others ≡ ending_from before lines
endings_alike before [] [] h = refl
endings_alike before [] (other ∷ others) h = absurd h
endings_alike before (text ∷ lines) [] h = absurd h
endings_alike before (text ∷ lines) (other ∷ others) h =
    let rest = endings_alike (before + 1) lines others h.1 in
    on_both SameLevel (λ a b. b ≡ a) (event_judged before text) (event_judged before other) _ _ (λ e. ending_from (before + 1) lines) (λ e. ending_from (before + 1) others) (λ ending. ending) (event_alike before text other h.0) rest (λ e f same. rest) (λ e. refl)

-- ---- device lines

-- the boot part with other thresholds
abbrev other_part : ℕ → ℕ → Part → Part
other_part out back p = record p { config = record p.config { copy_out = out; reverse_copy_out = back } }

abbrev SameDevice : DeviceLine → DeviceLine → Type 0
SameDevice d e = e ≡ d

-- no device line looks at a threshold
thresholds_apart : (script : List ℕ) (out back : ℕ) (p : Part) (before : ℕ) (o : Option Line) → device_said script (other_part out back p) before o ≡ device_said script p before o
thresholds_apart script out back p before None = refl
thresholds_apart script out back p before (Some line.Blank) = refl
thresholds_apart script out back p before (Some (line.Boot page frames slots cout rcout)) = refl
thresholds_apart script out back p before (Some (line.Device d)) = refl
thresholds_apart script out back p before (Some (line.Event e)) = refl

device_said_alike : (script : List ℕ) (p : Part) (before : ℕ) (o q : Option Line) → SaidAlike o q → JudgedAlike SameDevice (device_said script p before o) (device_said script p before q)
device_said_alike script p before o q (inl e) = subst (λ x. JudgedAlike SameDevice (device_said script p before o) (device_said script p before x)) (sym e) (itself SameDevice (λ x. refl) (device_said script p before o))
device_said_alike script p before o q (inr (inl b)) = both (λ x y. JudgedAlike SameDevice (device_said script p before x) (device_said script p before y)) b.is b.other_is refl
device_said_alike script p before o q (inr (inr c)) = both (λ x y. JudgedAlike SameDevice (device_said script p before x) (device_said script p before y)) c.is c.other_is refl

device_alike : (script : List ℕ) (out back : ℕ) (p : Part) (before : ℕ) (o q : Option Line) → SaidAlike o q → JudgedAlike SameDevice (device_said script p before o) (device_said script (other_part out back p) before q)
device_alike script out back p before o q s = subst (JudgedAlike SameDevice (device_said script p before o)) (sym (thresholds_apart script out back p before q)) (device_said_alike script p before o q s)

same_stays : (before : ℕ) (text other : List ℕ) → LinesSay text other → stays before other ≡ stays before text
same_stays before text other s = ap (λ b. b && not (is_long before other)) s.device ∙ ap (λ b. is_device_text text && not b) (same_long before text other s)

abbrev DevicesAlike : ℕ → ℕ → Boot → Boot → Type 0
DevicesAlike out back (Refused e) (Refused f) = f ≡ e
DevicesAlike out back (Booted p before lines) (Booted q behind others) = (q ≡ other_part out back p) × (behind ≡ before) × AllSay lines others
DevicesAlike out back b c = ⊥

devices_alike : (script : List ℕ) (out back : ℕ) (p : Part) (before : ℕ) (lines others : List (List ℕ)) → AllSay lines others → DevicesAlike out back (device_part script p before lines) (device_part script (other_part out back p) before others)
devices_alike script out back p before [] [] h = (refl, refl, tt)
devices_alike script out back p before [] (other ∷ others) h = absurd h
devices_alike script out back p before (text ∷ lines) [] h = absurd h
devices_alike script out back p before (text ∷ lines) (other ∷ others) h =
    either (DevicesAlike out back) (stays before text) (stays before other) _ _ (Booted p before (text ∷ lines)) (Booted (other_part out back p) before (other ∷ others)) (same_stays before text other h.0)
    (on_both SameDevice (DevicesAlike out back) (device_said script p before (line_of text)) (device_said script (other_part out back p) before (line_of other)) _ _ (λ d. device_part script (with_device p d) (before + 1) lines) (λ d. device_part script (with_device (other_part out back p) d) (before + 1) others) Refused
    (device_alike script out back p before (line_of text) (line_of other) h.0.said)
    (devices_alike script out back p (before + 1) lines others h.1)
    (λ d e same. subst (λ x. DevicesAlike out back (device_part script (with_device p d) (before + 1) lines) (device_part script (with_device (other_part out back p) x) (before + 1) others)) (sym same) (devices_alike script out back (with_device p d) (before + 1) lines others h.1))
    (λ e. refl))
    (refl, refl, h)

-- ---- the boot part

say : (out back : ℕ) (b c : Boot) → DevicesAlike out back b c → BootAlike b c
say out back (Refused e) (Refused f) h = h
say out back (Refused e) (Booted q behind others) h = absurd h
say out back (Booted p before lines) (Refused f) h = absurd h
say out back (Booted p before lines) (Booted q behind others) h =
    subst (λ x. SayAlike p before lines x behind others) (sym h.0) (subst (λ n. SayAlike p before lines (other_part out back p) n others) (sym h.1) (record {
      config = refl;
      devices = refl;
      line = refl;
      events = events_alike before lines others h.2;
      ending = endings_alike before lines others h.2;
    }))

abbrev OtherBoot : BootLine → BootLine → Type 0
OtherBoot b c = (out : ℕ) × (back : ℕ) × (c ≡ other_boot b out back)

fitting : (before : ℕ) (b : BootLine) → boot_fits b ≡ true → first_said before (Some (boot_line b)) ≡ Taken b
fitting before b e = ap (λ t. cond t (Taken b) (Ends (BadBoot (before + 1)))) e

first_said_alike : (before : ℕ) (o p : Option Line) → SaidAlike o p → JudgedAlike OtherBoot (first_said before o) (first_said before p)
first_said_alike before o p (inl e) = subst (λ x. JudgedAlike OtherBoot (first_said before o) (first_said before x)) (sym e) (itself OtherBoot (λ b. (b.cout, b.rcout, refl)) (first_said before o))
first_said_alike before o p (inr (inl b)) = both (JudgedAlike OtherBoot) (ap (first_said before) b.is ∙ fitting before b.boot b.fits) (ap (first_said before) b.other_is ∙ fitting before (other_boot b.boot b.out b.back) b.other_fits) (b.out, b.back, refl)
first_said_alike before o p (inr (inr c)) = both (λ x y. JudgedAlike OtherBoot (first_said before x) (first_said before y)) c.is c.other_is refl

first_alike : (before : ℕ) (text other : List ℕ) → LinesSay text other → JudgedAlike OtherBoot (first_judged before text) (first_judged before other)
first_alike before text other s = either (JudgedAlike OtherBoot) (is_long before text) (is_long before other) (Ends TooLong) (Ends TooLong) (first_said before (line_of text)) (first_said before (line_of other)) (same_long before text other s) refl (first_said_alike before (line_of text) (line_of other) s.said)

boots_alike : (script : List ℕ) (before : ℕ) (lines others : List (List ℕ)) → AllSay lines others → BootAlike (boot_part script before lines) (boot_part script before others)
boots_alike script before [] [] h = refl
boots_alike script before [] (other ∷ others) h = absurd h
boots_alike script before (text ∷ lines) [] h = absurd h
boots_alike script before (text ∷ lines) (other ∷ others) h =
    on_both OtherBoot BootAlike (first_judged before text) (first_judged before other) _ _ (λ b. device_part script (part_of b) (before + 1) lines) (λ b. device_part script (part_of b) (before + 1) others) Refused
    (first_alike before text other h.0)
    (boots_alike script (before + 1) lines others h.1)
    (λ b c same. say same.0 same.1 _ _ (subst (λ x. DevicesAlike same.0 same.1 (device_part script (part_of b) (before + 1) lines) (device_part script (part_of x) (before + 1) others)) (sym same.2) (devices_alike script same.0 same.1 (part_of b) (before + 1) lines others h.1)))
    (λ e. refl)

pub texts_say_alike : LinesAreReadAgain → SpellingsAreShort → TextsSayAlike
texts_say_alike again short script text other alike = boots_alike script 0 (lines_of text) (lines_of other) (all_say again short (lines_of text) (lines_of other) alike)

-- ---- another name of the script

-- where both boot parts are whole, they are the same
abbrev SameIfBooted : Boot → Boot → Type 0
SameIfBooted (Booted p before lines) (Booted q behind others) = Booted q behind others ≡ Booted p before lines
SameIfBooted b c = ⊤

refused : (b : Boot) (e : Ending) → SameIfBooted b (Refused e)
refused (Refused f) e = tt
refused (Booted p before lines) e = tt

-- a device line that is within the bounds under both names
bounded_twice : (b c : Bool) (d : DeviceLine) (e : Ending) (passed : Boot) (taken : DeviceLine → Boot) (other : Boot) (others : DeviceLine → Boot) → SameIfBooted (taken d) (others d) → SameIfBooted (on_judged (cond b (Taken d) (Ends e)) passed taken Refused) (on_judged (cond c (Taken d) (Ends e)) other others Refused)
bounded_twice true true d e passed taken other others h = h
bounded_twice true false d e passed taken other others h = refused (taken d) e
bounded_twice false c d e passed taken other others h = tt

device_renamed : (script renamed : List ℕ) (p : Part) (before : ℕ) (o : Option Line) (passed : Boot) (taken : DeviceLine → Boot) (other : Boot) (others : DeviceLine → Boot) → SameIfBooted passed other → ((d : DeviceLine) → SameIfBooted (taken d) (others d)) → SameIfBooted (on_judged (device_said script p before o) passed taken Refused) (on_judged (device_said renamed p before o) other others Refused)
device_renamed script renamed p before None passed taken other others h g = tt
device_renamed script renamed p before (Some line.Blank) passed taken other others h g = h
device_renamed script renamed p before (Some (line.Boot page frames slots cout rcout)) passed taken other others h g = tt
device_renamed script renamed p before (Some (line.Device d)) passed taken other others h g = bounded_twice (is_bounded script p d) (is_bounded renamed p d) d (BadBoot (before + 1)) passed taken other others (g d)
device_renamed script renamed p before (Some (line.Event e)) passed taken other others h g = tt

devices_renamed : (script renamed : List ℕ) (p : Part) (before : ℕ) (lines : List (List ℕ)) → SameIfBooted (device_part script p before lines) (device_part renamed p before lines)
devices_renamed script renamed p before [] = refl
devices_renamed script renamed p before (text ∷ lines) =
    either SameIfBooted (stays before text) (stays before text) _ _ (Booted p before (text ∷ lines)) (Booted p before (text ∷ lines)) refl
    (device_renamed script renamed p before (line_of text) _ (λ d. device_part script (with_device p d) (before + 1) lines) _ (λ d. device_part renamed (with_device p d) (before + 1) lines) (devices_renamed script renamed p (before + 1) lines) (λ d. devices_renamed script renamed (with_device p d) (before + 1) lines))
    refl

first_renamed : (j : Judged BootLine) (passed : Boot) (taken : BootLine → Boot) (other : Boot) (others : BootLine → Boot) → SameIfBooted passed other → ((b : BootLine) → SameIfBooted (taken b) (others b)) → SameIfBooted (on_judged j passed taken Refused) (on_judged j other others Refused)
first_renamed Passed passed taken other others h g = h
first_renamed (Taken b) passed taken other others h g = g b
first_renamed (Ends e) passed taken other others h g = tt

boot_renamed : (script renamed : List ℕ) (before : ℕ) (lines : List (List ℕ)) → SameIfBooted (boot_part script before lines) (boot_part renamed before lines)
boot_renamed script renamed before [] = tt
boot_renamed script renamed before (text ∷ lines) =
    first_renamed (first_judged before text) _ (λ b. device_part script (part_of b) (before + 1) lines) _ (λ b. device_part renamed (part_of b) (before + 1) lines) (boot_renamed script renamed (before + 1) lines) (λ b. devices_renamed script renamed (part_of b) (before + 1) lines)

-- from the same name to another one
moved : (a b c : Boot) (p q : Part) (before behind : ℕ) (lines others : List (List ℕ)) → a ≡ Booted p before lines → c ≡ Booted q behind others → BootAlike a b → SameIfBooted b c → SayAlike p before lines q behind others
moved a (Refused e) c p q before behind lines others f g alike same = absurd (subst (λ x. BootAlike x (Refused e)) f alike)
moved a (Booted r n ls) c p q before behind lines others f g alike same =
    let there : Booted q behind others ≡ Booted r n ls = subst (SameIfBooted (Booted r n ls)) g same in
    subst (λ x. BootAlike (Booted p before lines) x) (sym there) (subst (λ x. BootAlike x (Booted r n ls)) f alike)

pub scripts_say_alike : LinesAreReadAgain → SpellingsAreShort → ScriptsSayAlike
scripts_say_alike again short script renamed text other p q before behind lines others alike one two = moved _ _ _ p q before behind lines others one two (texts_say_alike again short script text other alike) (boot_renamed script renamed 0 (lines_of other))
