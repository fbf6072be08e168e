-- From the openings and the boot part to the whole run.
use Rattle.std.proofs.Common.{◌≡◌, ◌≢◌, ℕ, ◌+◌, ◌≤◌, List, [], ◌∷◌, refl, ap, arith, subst, inl, inr, true, false}
use Rattle.std.specs.Prelude.{◌⊎◌, Option, Some, None, Ok, flat_map, ◌==◌}
use Rattle.std.specs.Io.KnownBytes.{Keeps, prepend_known}
use Rattle.std.proofs.lemmas.Bool.Decides.{nat_tests}
use Rattle.genie_base.specs.declared.semantics.Direction.TheVariants.{Inward}
use Rattle.genie_host.specs.Host.{HostView, HandleState, OnlyHandle, Opens, Reading}
use Rattle.genie_store.specs.StoreView.{StoreView}
use Rattle.genie_kernel.specs.declared.kernel.Kernel.{Kernel}
use Rattle.genie_script.specs.Judge.{Boot, Part, Refused, Booted, boot_part}
use Rattle.genie_script.specs.Texts.{lines_of}
use Rattle.genie_script.specs.declared.judge.Ending.{Ending}
use Rattle.genie_script.specs.declared.judge.Ending.TheVariants as ending
use Rattle.genie_replay.specs.declared.booting.BootRead.TheVariants as read
use Rattle.genie_replay.specs.declared.script.LineStep.{LineStep}
use Rattle.genie_replay.specs.declared.status.Status.{Status}
use Rattle.genie_replay.specs.declared.status.Status.TheVariants as status
use Rattle.genie_replay.specs.Booting.{ReadsBoot}
use Rattle.genie_replay.specs.Files.{HoldsOfInputs, HoldsOfOutputs, IsReading, IsUnwritten, IsWriting, SameFaults, openings_of}
use Rattle.genie_replay.specs.Outcome.{CutShort, RanNothing, WroteNothing}
use Rattle.genie_replay.specs.Places.{IsPlaced}
use Rattle.genie_replay.specs.Plays.{LaterFaults}
use Rattle.genie_replay.specs.Statuses.{status_of}
use Rattle.genie_replay.specs.Lemmas.Filing.{outputs_all, unopened}
use Rattle.genie_replay.specs.Lemmas.Opened.{OnlyScript, Opened, keeps_same, ran_nothing, read_nothing, short_read}
use Rattle.genie_playing.specs.declared.costs.Listing.{Listing}
use Rattle.genie_playing.specs.Lemmas.Writing.{later_only}
use Rattle.genie_running.specs.Booted.{RunsBooted}
use Rattle.genie_running.specs.Outcome.{CutAtBoot, CutBefore, HandsBack, IsOutcome, HasRunCause, OutcomeOf}
use Rattle.genie_running.proofs.Running.{Came, came, came_some, came_told, rose_later}

-- a run that was cut short by a failure of the host, or by want of memory
abbrev pub Cut : Listing → List ℕ → Option (List ℕ) → HostView → HostView → StoreView → StoreView → Type 0
Cut l script content old new v w = OutcomeOf l script content status.HostFault None old new v w × OutcomeOf l script content status.NoMemory None old new v w

at_boot : (script : List ℕ) (p : Part) (old new : HostView) → CutShort script p.devices old new → CutAtBoot script p.devices None old new
at_boot script p old new c = record { none = refl; cut = c }

only_script_short : (script : List ℕ) (p : Part) (old new : HostView) → old.opened ≡ 0 → OnlyScript script old new → CutShort script p.devices old new
only_script_short script p old new none o = record {
  written = rw o.replies (keeps_same (old.handle 0).bytes);
  tried = record { front = (script, Inward) ∷ []; rest = flat_map openings_of p.devices; split = refl; tried = o.tried; opened = omega (arith, o.few); refused = omega (arith, none) };
  begun = λ e. cc;
  outputs = outputs_all (IsUnwritten old new) 1 p.devices (λ n h later. unopened old new n h (o.behind h later) (omega (arith, o.few, later)));
}

cut_any : (l : Listing) (b : Boot) (script : List ℕ) (old new : HostView) (v w : StoreView) → old.opened ≡ 0 → OnlyScript script old new → IsOutcome l script b status.HostFault None old new v w × IsOutcome l script b status.NoMemory None old new v w
cut_any l (Refused e) script old new v w none o = let cut : CutBefore script None old new = record { none = refl; nothing = ran_nothing script old new o } in ((tt, cut), (tt, cut))
cut_any l (Booted p before lines) script old new v w none o = let cut = at_boot script p old new (only_script_short script p old new none o) in ((tt, inl cut), (tt, cut))

-- the script couldn't be opened or read
pub script_cut : (l : Listing) (content : Option (List ℕ)) (script : List ℕ) (old new : HostView) (v w : StoreView) → old.opened ≡ 0 → OnlyScript script old new → Cut l script content old new v w
script_cut l None script old new v w none o = let nothing : WroteNothing old new = rw o.replies (keeps_same (old.handle 0).bytes) in (nothing, nothing)
script_cut l (Some text) script old new v w none o = cut_any l (boot_part script 0 (lines_of text)) script old new v w none o

refused : (l : Listing) (e : Ending) (script : List ℕ) (old mid : HostView) (v w : StoreView) → RanNothing script old mid → IsOutcome l script (Refused e) (status_of e) None old mid v w
refused l ending.End script old mid v w n = (refl, record { none = refl; nothing = n })
refused l (ending.BadLine line) script old mid v w n = (refl, record { none = refl; nothing = n })
refused l ending.TooLong script old mid v w n = (refl, record { none = refl; nothing = n })
refused l (ending.BadBoot line) script old mid v w n = (refl, record { none = refl; nothing = n })

-- its boot part ends it
pub refused_outcome : (l : Listing) (E : Type 0) (e : Ending) (script : List ℕ) (content told rest : Option (List ℕ)) (line : List ℕ) (old new : HostView) (v w : StoreView)
    → OnlyScript script old new → Keeps content told → ReadsBoot {E = E} script (prepend_known [] told) rest line (Ok (read.Refused e)) → OutcomeOf l script content (status_of e) None old new v w
refused_outcome l E e script None told rest line old new v w o k r = rw o.replies (keeps_same (old.handle 0).bytes)
refused_outcome l E e script (Some text) None rest line old new v w o k r = absurd k
refused_outcome l E e script (Some text) (Some bytes) None line old new v w o k r = absurd r
refused_outcome l E e script (Some text) (Some bytes) (Some rest) line old new v w o k r =
    let whole : IsOutcome l script (boot_part script 0 (lines_of bytes)) (status_of e) None old new v w = rw r (refused l e script old new v w (ran_nothing script old new o)) in
    subst (λ t. IsOutcome l script (boot_part script 0 (lines_of t)) (status_of e) None old new v w) k whole

-- its boot part is whole, and a failure comes before the reply to it
pub short_cut : (l : Listing) (E : Type 0) (script : List ℕ) (content told rest : Option (List ℕ)) (line : List ℕ) (p : Part) (step : LineStep) (before : ℕ) (old new : HostView) (v w : StoreView)
    → Keeps content told → ReadsBoot {E = E} script (prepend_known [] told) rest line (Ok (read.Whole p step before)) → CutShort script p.devices old new → Cut l script content old new v w
short_cut l E script None told rest line p step before old new v w k r c = (c.written, c.written)
short_cut l E script (Some text) None rest line p step before old new v w k r c = absurd k
short_cut l E script (Some text) (Some bytes) None line p step before old new v w k r c = absurd r
short_cut l E script (Some text) (Some bytes) (Some rest) line p step before old new v w k r c =
    let cut = at_boot script p old new c in
    let first : IsOutcome l script (boot_part script 0 (lines_of bytes)) status.HostFault None old new v w = rw r.is (tt, inl cut) in
    let second : IsOutcome l script (boot_part script 0 (lines_of bytes)) status.NoMemory None old new v w = rw r.is (tt, cut) in
    (subst (λ t. IsOutcome l script (boot_part script 0 (lines_of t)) status.HostFault None old new v w) k first, subst (λ t. IsOutcome l script (boot_part script 0 (lines_of t)) status.NoMemory None old new v w) k second)

came_outcome : (l : Listing) (E : Type 0) (s : Status) (script : List ℕ) (content told rest : Option (List ℕ)) (line : List ℕ) (p : Part) (step : LineStep) (before : ℕ) (last : Kernel) (old new : HostView) (v w : StoreView)
    → s ≢ status.NoMemory → Keeps content told → ReadsBoot {E = E} script (prepend_known [] told) rest line (Ok (read.Whole p step before)) → Came l s script p rest step line before last old new v w → OutcomeOf l script content s (Some last) old new v w
came_outcome l E s script None told rest line p step before last old new v w ne k r c = came_some l s script p rest step line before last old new v w ne c
came_outcome l E s script (Some text) None rest line p step before last old new v w ne k r c = absurd k
came_outcome l E s script (Some text) (Some bytes) None line p step before last old new v w ne k r c = absurd r
came_outcome l E s script (Some text) (Some bytes) (Some rest) line p step before last old new v w ne k r c =
    let whole : IsOutcome l script (boot_part script 0 (lines_of bytes)) s (Some last) old new v w = rw r.is (came_told l s script p rest step line before r.lines last old new v w ne r.pending c) in
    subst (λ t. IsOutcome l script (boot_part script 0 (lines_of t)) s (Some last) old new v w) k whole

-- the whole run
pub booted_outcome : (l : Listing) (E : Type 0) (s : Status) (kernel : Option Kernel) (script : List ℕ) (content told rest : Option (List ℕ)) (line : List ℕ) (p : Part) (step : LineStep) (before : ℕ) (old got begun new : HostView) (v w : StoreView)
    → Keeps content told → ReadsBoot {E = E} script (prepend_known [] told) rest line (Ok (read.Whole p step before)) → IsPlaced p → Opened script p.devices old got begun → LaterFaults old begun
    → HoldsOfInputs (IsReading begun) 1 p.devices → HoldsOfOutputs (IsWriting begun) 1 p.devices → HandsBack kernel new w → RunsBooted l p rest step line before s kernel begun new v w → OutcomeOf l script content s kernel old new v w
booted_outcome l E s None script content told rest line p step before old got begun new v w k r placed o later i out back runs =
    let same : new ≡ begun = runs.host in
    let cut = short_cut l E script content told rest line p step before old new v w k r (rw same (short_read script p.devices old got begun begun o (read_nothing p.devices begun))) in
    by runs.failed cut where
      by : (s ≡ status.HostFault) ⊎ (s ≡ status.NoMemory) → Cut l script content old new v w → OutcomeOf l script content s None old new v w
      by (inl e) cut = rw e cut.0
      by (inr e) cut = rw e cut.1
booted_outcome l E s (Some last) script content told rest line p step before old got begun new v w k r placed o later i out back runs =
    came_outcome l E s script content told rest line p step before last old new v w runs.0 k r (came l s script p rest step line before last old got begun new v w placed o later i out back.1 runs.1)

-- want of memory comes before the first reply
pub nothing_written : (l : Listing) (s : Status) (kernel : Option Kernel) (script : List ℕ) (p : Part) (rest : Option (List ℕ)) (step : LineStep) (line : List ℕ) (before : ℕ) (old begun new : HostView) (v w : StoreView) → begun.handle 0 ≡ old.handle 0 → RunsBooted l p rest step line before s kernel begun new v w → s ≡ status.NoMemory → WroteNothing old new
nothing_written l s None script p rest step line before old begun new v w replies runs is = let same : new ≡ begun = runs.host in rw (same, replies) (keeps_same (old.handle 0).bytes)
nothing_written l s (Some last) script p rest step line before old begun new v w replies runs is = absurd (runs.0 is)

-- the counts of faults once the files are begun
later_same : (u v : HostView) → SameFaults u v → LaterFaults u v
later_same u v s = λ k. let e = s.handles k in omega (arith, e)

pub later_open : {E : Type 0} (script : List ℕ) (content : Option (List ℕ)) (e : E) (h : ℕ) (old first read begun : HostView) → Opens script Inward Reading content e old first (Ok h) → OnlyHandle 1 first read → (first.handle 1).faults ≤ (read.handle 1).faults → SameFaults read begun → LaterFaults old begun
later_open script content e h old first read begun a b low same = λ k.
    let x : (first.handle k).faults ≡ (old.handle k).faults = elim (k == old.opened + 1) as (λ t. (k == old.opened + 1) ≡ t → (first.handle k).faults ≡ (old.handle k).faults) [
      | true ↦ λ t. let is : k ≡ old.opened + 1 = grind (arith, nat_tests, t) in rw is a.fault_count
      | false ↦ λ t. let other : k ≢ old.opened + 1 = λ s. grind (arith, nat_tests, t, s) in ap (λ (y : HandleState). y.faults) (a.others k other)
    ] refl in
    let y = later_only 1 first read b low k in
    let z = later_same read begun same k in
    omega (arith, x, y, z)

-- the cause of a failure, from an earlier moment on
pub cause_before : (old begun new : HostView) (v w : StoreView) → LaterFaults old begun → begun.refusals ≡ old.refusals → HasRunCause begun new v w → HasRunCause old new v w
cause_before old begun new v w later same (inl x) = inl (x.0, x.1, rose_later (old.handle x.0).faults (begun.handle x.0).faults (new.handle x.0).faults (later x.0) x.2)
cause_before old begun new v w later same (inr (inl x)) = inr (inl (rw same at x))
cause_before old begun new v w later same (inr (inr x)) = inr (inr x)
