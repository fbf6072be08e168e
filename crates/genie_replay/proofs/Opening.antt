-- From the openings and the boot part to the whole run.
use Rattle.std.proofs.Common.{◌≡◌, ℕ, ◌+◌, ◌≤◌, length, List, [], ◌∷◌, ◌++◌, refl, ap, sym, ◌∙◌, append_assoc, append-nil, arith, subst, inl, inr}
use Rattle.std.specs.Prelude.{◌⊎◌, Option, Some, None, Ok, Err, flat_map}
use Rattle.std.specs.Io.KnownBytes.{Appends, Keeps, prepend_known}
use Rattle.genie_base.specs.declared.semantics.Direction.TheVariants.{Inward}
use Rattle.genie_host.specs.Host.{HostView, HandleState, OnlyHandle, Opens, Reading, empty_told}
use Rattle.genie_model.specs.Sending.{sent_of}
use Rattle.genie_model.specs.State.{State, boot}
use Rattle.genie_script.specs.Judge.{Boot, Numbered, Part, Refused, Booted, boot_part, events_from}
use Rattle.genie_script.specs.Texts.{lines_of}
use Rattle.genie_script.specs.declared.judge.Ending.{Ending}
use Rattle.genie_script.specs.declared.judge.Ending.TheVariants as ending
use Rattle.genie_script.specs.declared.line.DeviceLine.{DeviceLine}
use Rattle.genie_replay.specs.declared.booting.BootRead.TheVariants as read
use Rattle.genie_replay.specs.declared.script.LineStep.{LineStep}
use Rattle.genie_replay.specs.declared.status.Status.{Status}
use Rattle.genie_replay.specs.declared.status.Status.TheVariants as status
use Rattle.genie_replay.specs.Booted.{Booted as Run, Cut, Runs, RunsAll, RunsBooted, RunsFrom, RunsInPart, Started}
use Rattle.genie_replay.specs.Booting.{ReadsBoot}
use Rattle.genie_replay.specs.Files.{HasSent, HasSentFront, HoldsOfInputs, HoldsOfOutputs, IsFresh, IsFreshFor, IsFreshInput, IsFreshOutput, IsReading, IsSameHandle, IsUnwritten, IsWriting, KeptBehind, KeptUpTo, OnlyReads, Opening, OpensAll, last_handle, openings_of}
use Rattle.genie_replay.specs.Inputs.{HasInputs, IsBoot, ReadsInputs}
use Rattle.genie_replay.specs.Outcome.{CutOf, CutShort, HasAll, HasFront, IsOutcome, OutcomeOf, Ran, RanInPart, RanNothing, openings}
use Rattle.genie_replay.specs.Statuses.{status_of}
use Rattle.genie_replay.specs.Write.{AppendsFront}
use Rattle.genie_replay.specs.Lines.{IsPending}
use Rattle.genie_replay.specs.Lemmas.Filing.{inputs_map, outputs_all, outputs_both, unopened}
use Rattle.genie_replay.specs.Lemmas.Opened.{OnlyScript, Opened, keeps_same, ran_nothing, read_nothing, script_read, short_read, still_fresh}
use Rattle.genie_replay.proofs.Gathering.{only_reads}
use Rattle.genie_replay.proofs.Starting.{KeptInput, sets_boot, sets_some}

kept_appends : (u v w : Option (List ℕ)) (bytes : List ℕ) → Keeps u v → Appends v w bytes → Appends u w bytes
kept_appends None v w bytes k a = tt
kept_appends (Some u) None w bytes k a = absurd k
kept_appends (Some u) (Some v) None bytes k a = absurd a
kept_appends (Some u) (Some v) (Some w) bytes k a = a ∙ ap (λ l. l ++ bytes) k

kept_front : (u v w : Option (List ℕ)) (bytes : List ℕ) → Keeps u v → AppendsFront v w bytes → AppendsFront u w bytes
kept_front u v w bytes k a = (a.0, a.1, a.2, kept_appends u v w a.0 k a.3)

begins : (script : List ℕ) (p : Part) (old read new mid : HostView) (start : State) → Opened script p.devices old read new → Started p new mid start → IsBoot old.names p.config p.devices start
begins script p old read new mid start o b =
    let some = sets_some p.config (λ _. []) new 1 p.devices start b.sets in
    record {
      inputs = some.0;
      boots = some.1;
      told = λ told. sets_boot old.names p.config (λ _. []) new 1 p.devices start told (inputs_map (IsFreshFor old new) (KeptInput old.names new) 1 p.devices (λ name h later f. f.whole) o.inputs) b.sets;
    }

ran : (script : List ℕ) (p : Part) (events : List Numbered) (old read new mid end : HostView) (start : State) → Opened script p.devices old read new → Started p new mid start → RunsAll start p.devices events mid end → Ran script p.config p.devices events old end
ran script p events old read new mid end start o b r = record {
  start = start;
  begins = begins script p old read new mid start o b;
  run = r.run;
  plain = r.plain;
  written = rw (b.still.replies ∙ o.replies) at r.written;
  sent = outputs_both (IsFresh old mid) (HasSent r.run.last mid end) (HasAll r.run.last old end) 1 p.devices (λ n h f s. kept_appends (empty_told (old.handle 0).bytes) (mid.handle h).bytes (end.handle h).bytes (sent_of r.run.last n) f.empty s) (still_fresh script p.devices old read new mid o b.still) r.sent;
  tried = r.tried ∙ b.still.tried ∙ o.tried;
}

ran_in_part : (script : List ℕ) (p : Part) (events : List Numbered) (old read new mid end : HostView) (start : State) → Opened script p.devices old read new → Started p new mid start → RunsInPart start p.devices events mid end → RanInPart script p.config p.devices events old end
ran_in_part script p events old read new mid end start o b r = record {
  start = start;
  begins = begins script p old read new mid start o b;
  done = r.done;
  left = r.left;
  split = r.split;
  run = r.run;
  plain = r.plain;
  written = rw (b.still.replies ∙ o.replies) at r.written;
  sent = outputs_both (IsFresh old mid) (HasSentFront r.run.last mid end) (HasFront r.run.last old end) 1 p.devices (λ n h f s. kept_front (empty_told (old.handle 0).bytes) (mid.handle h).bytes (end.handle h).bytes (sent_of r.run.last n) f.empty s) (still_fresh script p.devices old read new mid o b.still) r.sent;
  tried = r.tried ∙ b.still.tried ∙ o.tried;
}

started_outcome : (st : Status) (script : List ℕ) (p : Part) (before : ℕ) (lines : List (List ℕ)) (old read new mid end : HostView) (start : State) → Opened script p.devices old read new → Started p new mid start → Runs start p.devices before lines mid end st → IsOutcome script (Booted p before lines) old end st
started_outcome status.HostFault script p before lines old read new mid end start o b r = inr (ran_in_part script p (events_from before lines) old read new mid end start o b r)
started_outcome status.NoMemory script p before lines old read new mid end start o b r = inr (ran_in_part script p (events_from before lines) old read new mid end start o b r)
started_outcome status.Done script p before lines old read new mid end start o b r = (r.0, ran script p (events_from before lines) old read new mid end start o b r.1)
started_outcome status.Usage script p before lines old read new mid end start o b r = (r.0, ran script p (events_from before lines) old read new mid end start o b r.1)
started_outcome (status.BadLine l) script p before lines old read new mid end start o b r = (r.0, ran script p (events_from before lines) old read new mid end start o b r.1)
started_outcome status.TooLong script p before lines old read new mid end start o b r = (r.0, ran script p (events_from before lines) old read new mid end start o b r.1)
started_outcome (status.BadBoot l) script p before lines old read new mid end start o b r = (r.0, ran script p (events_from before lines) old read new mid end start o b r.1)

-- cut short before the reply to the boot part
cut_outcome : (st : Status) (script : List ℕ) (p : Part) (before : ℕ) (lines : List (List ℕ)) (old read new end : HostView) → Opened script p.devices old read new → Cut p.devices new end st → IsOutcome script (Booted p before lines) old end st
cut_outcome status.HostFault script p before lines old read new end o c = inl (short_read script p.devices old read new end o c)
cut_outcome status.NoMemory script p before lines old read new end o c = inl (short_read script p.devices old read new end o c)
cut_outcome status.Done script p before lines old read new end o c = absurd c
cut_outcome status.Usage script p before lines old read new end o c = absurd c
cut_outcome (status.BadLine l) script p before lines old read new end o c = absurd c
cut_outcome status.TooLong script p before lines old read new end o c = absurd c
cut_outcome (status.BadBoot l) script p before lines old read new end o c = absurd c

booted_outcome : (st : Status) (script : List ℕ) (p : Part) (before : ℕ) (lines : List (List ℕ)) (old read new end : HostView) → Opened script p.devices old read new → Cut p.devices new end st ⊎ Run p before lines new end st → IsOutcome script (Booted p before lines) old end st
booted_outcome st script p before lines old read new end o (inl c) = cut_outcome st script p before lines old read new end o c
booted_outcome st script p before lines old read new end o (inr r) = started_outcome st script p before lines old read new r.mid end r.start o r.started r.runs

-- the machine has its inputs
pub has_inputs : (p : Part) (flat after : Option State) (ds : List DeviceLine) (old mid : HostView) (u : Unit {0}) → flat ≡ Some (boot p.config (λ _. [])) → ds ≡ p.devices → ReadsInputs 1 ds flat after old mid (Ok u) → HasInputs old 1 p.devices (boot p.config (λ _. [])) after
has_inputs p flat after ds old mid u is same r = rw (is, same) at r.has

pub inputs_writing : (ds : List DeviceLine) (flat after : Option State) (old mid : HostView) (u : Unit {0}) → ReadsInputs 1 ds flat after old mid (Ok u) → HoldsOfOutputs (IsWriting old) 1 ds → HoldsOfOutputs (IsWriting mid) 1 ds
inputs_writing ds flat after old mid u r w = outputs_both (IsWriting old) (IsSameHandle old mid) (IsWriting mid) 1 ds (λ n h m same. ap (λ (x : HandleState). x.mode) same ∙ m) w r.outputs

-- and then the events were run
pub booted_runs : (st : Status) (p : Part) (flat after : Option State) (ds : List DeviceLine) (text : Option (List ℕ)) (step : LineStep) (line : List ℕ) (before : ℕ) (old mid new : HostView) (u : Unit {0})
    → flat ≡ Some (boot p.config (λ _. [])) → ds ≡ p.devices → ReadsInputs 1 ds flat after old mid (Ok u) → RunsFrom after ds text step line before mid new st → RunsBooted p text step line before old new st
booted_runs st p flat after ds None step line before old mid new u is same r runs = tt
booted_runs st p flat after ds (Some text) step line before old mid new u is same r runs = λ lines pending.
    let h = has_inputs p flat after ds old mid u is same r in
    let first : RunsFrom (Some h.now) ds (Some text) step line before mid new st = rw h.is at runs in
    let now : RunsFrom (Some h.now) p.devices (Some text) step line before mid new st = subst (λ l. RunsFrom (Some h.now) l (Some text) step line before mid new st) same first in
    let still : OnlyReads p.devices old mid = subst (λ l. OnlyReads l old mid) same (only_reads ds flat after old mid (Ok u) r) in
    inr (record {
      start = h.now;
      mid = mid;
      started = record { sets = h.sets; still = still };
      runs = now lines pending;
    })

pub unbooted_runs : (p : Part) (text : Option (List ℕ)) (step : LineStep) (line : List ℕ) (before : ℕ) (v : HostView) → RunsBooted p text step line before v v status.NoMemory
unbooted_runs p None step line before v = tt
unbooted_runs p (Some text) step line before v = λ lines pending. inl (read_nothing p.devices v)

-- the whole run, by what the host told of the script: its boot part is whole
whole_outcome : (E : Type 0) (st : Status) (script : List ℕ) (content told rest : Option (List ℕ)) (line : List ℕ) (p : Part) (step : LineStep) (before : ℕ) (old end : HostView)
    → Keeps content told → ReadsBoot {E = E} script (prepend_known [] told) rest line (Ok (read.Whole p step before))
    → ((text : List ℕ) (lines : List (List ℕ)) → rest ≡ Some text → IsPending lines step line text → IsOutcome script (Booted p before lines) old end st) → OutcomeOf script content old end st
whole_outcome E st script None told rest line p step before old end k r f = tt
whole_outcome E st script (Some text) None rest line p step before old end k r f = absurd k
whole_outcome E st script (Some text) (Some bytes) None line p step before old end k r f = absurd r
whole_outcome E st script (Some text) (Some bytes) (Some rest) line p step before old end k r f =
    let whole : IsOutcome script (boot_part script 0 (lines_of bytes)) old end st = rw r.is (f rest r.lines refl r.pending) in
    subst (λ t. IsOutcome script (boot_part script 0 (lines_of t)) old end st) k whole

pub told_outcome : (E : Type 0) (st : Status) (script : List ℕ) (content told rest : Option (List ℕ)) (line : List ℕ) (p : Part) (step : LineStep) (before : ℕ) (old mid new end : HostView)
    → Keeps content told → ReadsBoot {E = E} script (prepend_known [] told) rest line (Ok (read.Whole p step before)) → Opened script p.devices old mid new → RunsBooted p rest step line before new end st → OutcomeOf script content old end st
told_outcome E st script content told rest line p step before old mid new end k r o b = whole_outcome E st script content told rest line p step before old end k r (λ text lines is pending.
    let runs : RunsBooted p (Some text) step line before new end st = rw is at b in
    booted_outcome st script p before lines old mid new end o (runs lines pending))

-- its files couldn't be opened
pub short_outcome : (E : Type 0) (script : List ℕ) (content told rest : Option (List ℕ)) (line : List ℕ) (p : Part) (step : LineStep) (before : ℕ) (old end : HostView)
    → Keeps content told → ReadsBoot {E = E} script (prepend_known [] told) rest line (Ok (read.Whole p step before)) → CutShort script p.devices old end → OutcomeOf script content old end status.HostFault × OutcomeOf script content old end status.NoMemory
short_outcome E script content told rest line p step before old end k r c = (
  whole_outcome E status.HostFault script content told rest line p step before old end k r (λ text lines is pending. inl c),
  whole_outcome E status.NoMemory script content told rest line p step before old end k r (λ text lines is pending. inl c),
)

cut_any : (b : Boot) (script : List ℕ) (old new : HostView) → old.opened ≡ 0 → OnlyScript script old new → CutOf script b old new
cut_any (Refused e) script old new none o = ran_nothing script old new o
cut_any (Booted p before lines) script old new none o = inl (record {
  written = rw o.replies (keeps_same (old.handle 0).bytes);
  tried = record { front = (script, Inward) ∷ []; rest = flat_map openings_of p.devices; split = refl; tried = o.tried; opened = omega (arith, o.few); refused = omega (arith, none) };
  begun = λ e. cc;
  outputs = outputs_all (IsUnwritten old new) 1 p.devices (λ n h later. unopened old new n h (o.behind h later) (omega (arith, o.few, later)));
})

pub script_outcome : (content : Option (List ℕ)) (script : List ℕ) (old new : HostView) → old.opened ≡ 0 → OnlyScript script old new → OutcomeOf script content old new status.HostFault × OutcomeOf script content old new status.NoMemory
script_outcome None script old new none o = (tt, tt)
script_outcome (Some text) script old new none o = let cut = cut_any (boot_part script 0 (lines_of text)) script old new none o in (cut, cut)

refused : (e : Ending) (script : List ℕ) (old mid : HostView) → RanNothing script old mid → IsOutcome script (Refused e) old mid (status_of e)
refused ending.End script old mid n = (refl, n)
refused (ending.BadLine l) script old mid n = (refl, n)
refused ending.TooLong script old mid n = (refl, n)
refused (ending.BadBoot l) script old mid n = (refl, n)

pub refused_outcome : (E : Type 0) {F : Type 0} (ending : Ending) (script : List ℕ) (content told rest : Option (List ℕ)) (line : List ℕ) (f : F) (h : ℕ) (old first mid : HostView)
    → old.opened ≡ 0 → Opens script Inward Reading content f old first (Ok h) → OnlyHandle 1 first mid → Keeps content told → ReadsBoot {E = E} script (prepend_known [] told) rest line (Ok (read.Refused ending)) → OutcomeOf script content old mid (status_of ending)
refused_outcome E e script None told rest line f h old first mid none a b k r = tt
refused_outcome E e script (Some text) None rest line f h old first mid none a b k r = absurd k
refused_outcome E e script (Some text) (Some bytes) None line f h old first mid none a b k r = absurd r
refused_outcome E e script (Some text) (Some bytes) (Some rest) line f h old first mid none a b k r =
    let only = script_read script (Some text) f h old first mid none a b in
    let whole : IsOutcome script (boot_part script 0 (lines_of bytes)) old mid (status_of e) = rw r (refused e script old mid (ran_nothing script old mid only)) in
    subst (λ t. IsOutcome script (boot_part script 0 (lines_of t)) old mid (status_of e)) k whole
