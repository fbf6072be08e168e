-- A run whose files are begun: from the boot to what it comes to.
use Rattle.std.proofs.Common.{◌≡◌, ◌≢◌, ℕ, ◌<◌, ◌≤◌, List, [], ◌∷◌, ◌++◌, All, map, refl, ap, sym, subst, ◌∙◌, arith, append-nil, inl, inr}
use Rattle.std.specs.Prelude.{Option, Some, None, IsSome, is_some}
use Rattle.std.specs.Io.KnownBytes.{Appends}
use Rattle.genie_base.specs.Causes.{Rose}
use Rattle.genie_base.specs.Configs.{config_of, pool_of}
use Rattle.genie_base.specs.declared.config.Config.{Config}
use Rattle.genie_base.specs.declared.event.Event.{Event}
use Rattle.genie_base.specs.declared.reply.Reply.{Reply}
use Rattle.genie_host.specs.Host.{HostView, HandleState, OnlyHandle}
use Rattle.genie_store.specs.StoreView.{StoreView}
use Rattle.genie_object.specs.Sound.{IsSized}
use Rattle.genie_model.specs.State.{State, boot}
use Rattle.genie_model.specs.Step.{Follows}
use Rattle.genie_kernel.specs.declared.kernel.Kernel.{Kernel}
use Rattle.genie_kernel.specs.Booting.{BootsAs, only_taken}
use Rattle.genie_kernel.specs.Good.{IsGood}
use Rattle.genie_kernel.specs.Handles.{HasHandles, handles}
use Rattle.genie_kernel.specs.View.{view}
use Rattle.genie_script.specs.Judge.{Numbered, Part, events_from, ending_from}
use Rattle.genie_script.specs.declared.judge.Ending.{Ending}
use Rattle.genie_replay.specs.declared.script.LineStep.{LineStep}
use Rattle.genie_replay.specs.declared.status.Status.{Status}
use Rattle.genie_replay.specs.declared.status.Status.TheVariants as status
use Rattle.genie_replay.specs.Files.{HoldsOfInputs, HoldsOfOutputs, IsReading, IsWriting}
use Rattle.genie_replay.specs.Inputs.{inputs_from}
use Rattle.genie_replay.specs.Lines.{IsPending}
use Rattle.genie_replay.specs.Outcome.{events_of, okay}
use Rattle.genie_replay.specs.Places.{FindPlaces, IsPlaced}
use Rattle.genie_replay.specs.Plays.{LaterFaults}
use Rattle.genie_replay.specs.Write.{AppendsUpToLast}
use Rattle.genie_replay.specs.Lemmas.Opened.{Opened}
use Rattle.genie_replay.specs.Lemmas.Writing.{appends_more, up_to_behind}
use Rattle.genie_playing.specs.declared.costs.Listing.{Listing}
use Rattle.genie_playing.specs.Costs.{Answer, all_said, replies_of, said}
use Rattle.genie_playing.specs.Faults.{AreCounted, RoseBy}
use Rattle.genie_playing.specs.Moments.{FollowsTold, IsReady, Moment, moment, shown}
use Rattle.genie_playing.specs.Plays.{AreStepped, EndsAs, IsOfScript, Played, Writes}
use Rattle.genie_playing.specs.Lemmas.Costing.{steps_cost}
use Rattle.genie_playing.specs.Lemmas.Counting.{steps_count}
use Rattle.genie_playing.specs.Lemmas.Showing.{IsApart, view_same}
use Rattle.genie_playing.specs.Lemmas.Stepping.{between_same, steps_follow}
use Rattle.genie_running.specs.Booted.{Began, Begins, IsBooted, NotBegun, RunsOver}
use Rattle.genie_running.specs.Outcome.{EndsBy, IsFlatRun, Ran, RanAll, RunsBy, TellBytes}
use Rattle.genie_running.specs.Wiring.{IsWired, no_wires}
use Rattle.genie_running.proofs.Telling.{boot_shown, outputs_shown}
use Rattle.genie_running.proofs.Wires.{has_handles, unwired}

-- the lines find their places in an empty table
find_all : (p : Part) → IsPlaced p → FindPlaces (unwired no_wires) p.devices
find_all p placed = placed.free

-- the kernel is ready to be stepped
pub ready : (p : Part) (c : Config) (k : Kernel) (v w : StoreView) (host : HostView) → IsPlaced p → IsWired p c → IsBooted c k v w → HoldsOfInputs (IsReading host) 1 p.devices → HoldsOfOutputs (IsWriting host) 1 p.devices → IsReady k host w
ready p c k v w host placed wired booted i o =
    let both = has_handles c p.devices host wired.devices (find_all p placed) i o in
    record {
      good = booted.good;
      sized = booted.sized;
      handles_open = subst (λ q. HasHandles q host) (sym booted.config) both.0;
      unread = subst (λ q. All (λ (h : ℕ). h ≢ 1) (handles q)) (sym booted.config) both.1;
    }

-- a store of a kernel's size has slots
pub some_slots : (k : Kernel) (w : StoreView) → IsGood k → IsSized k.memory w → 0 < w.count
some_slots k w good sized =
    let count = sized.count in
    let slots = good.sized.slots in
    let low = good.fits.slots_low in
    omega (arith, count, slots, low)

count_later : (n a b l : ℕ) → a ≤ b → RoseBy n b l → RoseBy n a l
count_later n a b l low rose = omega (arith, low, rose)

pub rose_later : (a b l : ℕ) → a ≤ b → Rose b l → Rose a l
rose_later a b l low rose = omega (arith, low, rose)

-- the counts of a run, from an earlier moment on
pub counted_before : (c : Config) (es : List Event) (rs : List Reply) (old start new : HostView) (v u w : StoreView) → LaterFaults old start → u.faults ≡ v.faults → AreCounted c es rs start new u w → AreCounted c es rs old new v w
counted_before c es rs old start new v u w later same a = record {
  handles = λ h. count_later _ (old.handle h).faults (start.handle h).faults (new.handle h).faults (later h) (a.handles h);
  store = rw (← same) a.store;
  none = λ n. a.none (record {
    handles = λ h rose. n.handles h (rose_later (old.handle h).faults (start.handle h).faults (new.handle h).faults (later h) rose);
    store = λ rose. n.store (rw same at rose);
  });
}

-- from a state that is told, the run is the flat machine's
follows_some : (a b : Option State) (s : State) (es : List Event) (rs : List Reply) → a ≡ Some s → FollowsTold a es rs b → (last : State) × Follows s es rs last × (b ≡ Some last)
follows_some a b s es rs is f = rw is at f

slots_told : (a b : Option (ℕ → List ℕ)) → is_some b ≡ is_some a → IsSome a → (slots : ℕ → List ℕ) × (b ≡ Some slots)
slots_told None b same some = absurd (cc)
slots_told (Some x) None same some = absurd (cc)
slots_told (Some x) (Some y) same some = (y, refl)

-- The parts of a run that was booted: the files are begun, the kernel is booted over a store that is sized, and the reply to
-- the boot part is written.
pub record Started (script : List ℕ) (p : Part) (old read begun between : HostView) (v : StoreView) (c : Config) (k : Kernel) (u : StoreView) : Type 0 where
  pub placed : IsPlaced p
  pub opened : Opened script p.devices old read begun
  pub later : LaterFaults old between
  pub only : OnlyHandle 0 begun between
  pub wired : IsWired p c
  pub booted : IsBooted c k v u
  pub ready : IsReady k begun u

pub flat_run : (script : List ℕ) (p : Part) (old read begun between new : HostView) (v u w : StoreView) (c : Config) (k last : Kernel) (es : List Event) (rs : List Reply)
    → Started script p old read begun between v c k u → IsReady last new w → last.config ≡ k.config → FollowsTold (shown (moment k between u)) es rs (shown (moment last new w)) → TellBytes p.devices old v → IsFlatRun p es rs last old new w
flat_run script p old read begun between new v u w c k last es rs s end config follows tells =
    let slots = slots_told v.slots u.slots s.booted.told tells.slots in
    let find = find_all p s.placed in
    let first : view k begun u ≡ Some (boot (config_of c) (inputs_from old.names (λ d. []) p.devices)) =
    boot_shown c k old begun u slots.0 p.devices s.booted.boots s.booted.config s.wired.devices find slots.1 tells.replies tells.inputs s.opened.inputs s.opened.outputs in
    let same : view k between u ≡ view k begun u =
    view_same k (λ h. h ≢ 0) begun between u s.ready.handles_open.own (λ h ne. ap (λ (x : HandleState). x.bytes) (s.only.others h ne)) in
    let start : view k between u ≡ Some (boot p.config (inputs_from old.names (λ d. []) p.devices)) = same ∙ first ∙ ap (λ q. Some (boot q (inputs_from old.names (λ d. []) p.devices))) s.wired.config in
    let run = follows_some (view k between u) (view last new w) _ es rs start follows in
    record {
      last = run.0;
      follows = run.1;
      shown = run.2;
      sent = outputs_shown last old new w run.0 p.devices end.good (ap (λ (q : Config). q.devices) (config ∙ s.booted.config) ∙ s.wired.devices) find tells.replies run.2;
    }

abbrev pub ran : (script : List ℕ) (p : Part) (old read begun between new : HostView) (v u w : StoreView) (c : Config) (k last : Kernel) (es : List Event)
    → Started script p old read begun between v c k u → IsReady last new w → last.config ≡ k.config → new.tried ≡ begun.tried → (r : Played (moment k between u) es (moment last new w)) → Ran script p es last old new v w
ran script p old read begun between new v u w c k last es s end config tried r = record {
  start = moment k between u;
  begins = record {
    good = s.booted.good;
    config = ap config_of s.booted.config ∙ s.wired.config;
    boots = subst (λ (q : Config). BootsAs q k) (sym s.booted.config) s.booted.boots;
    meters = s.booted.meters ∙ ap (λ q. only_taken (pool_of q.devices)) s.wired.config;
  };
  run = r;
  counted = counted_before k.config es (replies_of r.answers) old between new v u w s.later s.booted.faults r.counted;
  flat = flat_run script p old read begun between new v u w c k last es (replies_of r.answers) s end config r.follows;
  tried = tried ∙ s.opened.tried;
}

-- what is said of the events was written behind the reply to the boot part
abbrev pub WritesAfter : Listing → Status → Option (List ℕ) → Option (List ℕ) → List Answer → Type 0
WritesAfter l status.HostFault old new answers = AppendsUpToLast old new (okay ∷ map (said l) answers)
WritesAfter l s old new answers = Appends old new (okay ++ all_said l answers)

written_after : (l : Listing) (s : Status) (old mid new : Option (List ℕ)) (answers : List Answer) → Appends old mid okay → Writes l s mid new answers → WritesAfter l s old new answers
written_after l status.HostFault old mid new answers o w = up_to_behind old mid new okay (map (said l) answers) o w
written_after l status.Done old mid new answers o w = appends_more old mid new okay (all_said l answers) o w
written_after l status.Usage old mid new answers o w = appends_more old mid new okay (all_said l answers) o w
written_after l (status.BadLine n) old mid new answers o w = appends_more old mid new okay (all_said l answers) o w
written_after l status.NoMemory old mid new answers o w = appends_more old mid new okay (all_said l answers) o w
written_after l status.TooLong old mid new answers o w = appends_more old mid new okay (all_said l answers) o w
written_after l (status.BadBoot n) old mid new answers o w = appends_more old mid new okay (all_said l answers) o w

-- What a run came to whose files were begun: these events were stepped.
pub record Came (l : Listing) (s : Status) (script : List ℕ) (p : Part) (text : Option (List ℕ)) (step : LineStep) (line : List ℕ) (before : ℕ) (last : Kernel) (old new : HostView) (v w : StoreView) : Type 0 where
  pub done : List Numbered
  pub ran : Ran script p (events_of done) last old new v w
  pub written : WritesAfter l s (old.handle 0).bytes (new.handle 0).bytes ran.run.answers
  pub told : IsOfScript s text step line before done

later_trans : (u v w : HostView) → LaterFaults u v → LaterFaults v w → LaterFaults u w
later_trans u v w a b = λ k. let x = a k in let y = b k in omega (arith, x, y)

-- the reply to the boot part was written
came_began : (l : Listing) (s : Status) (script : List ℕ) (p : Part) (text : Option (List ℕ)) (step : LineStep) (line : List ℕ) (before : ℕ) (c : Config) (k last : Kernel) (old read begun new : HostView) (v u w : StoreView)
    → IsPlaced p → Opened script p.devices old read begun → LaterFaults old begun → IsWired p c → IsBooted c k v u → IsReady k begun u → IsReady last new w → last.config ≡ k.config → new.tried ≡ begun.tried
    → Began l s text step line before (moment k begun u) (moment last new w) → Came l s script p text step line before last old new v w
came_began l s script p text step line before c k last old read begun new v u w placed opened later wired booted start end config tried b =
    let started : Started script p old read begun b.between v c k u = record { placed = placed; opened = opened; later = later_trans old begun b.between later b.later; only = b.only; wired = wired; booted = booted; ready = start } in
    record {
      done = b.plays.events;
      ran = ran script p old read begun b.between new v u w c k last (events_of b.plays.events) started end config tried b.plays.run;
      written = written_after l s (old.handle 0).bytes (b.between.handle 0).bytes (new.handle 0).bytes b.plays.run.answers (rw opened.replies at b.written) b.plays.written;
      told = b.plays.told;
    }

nothing_stepped : (text : Option (List ℕ)) (step : LineStep) (line : List ℕ) (before : ℕ) → IsOfScript status.HostFault text step line before []
nothing_stepped None step line before = tt
nothing_stepped (Some text) step line before = λ lines pending. (tt, (events_from before lines, refl))

apart_ready : (k : Kernel) (host : HostView) (v : StoreView) → IsReady k host v → IsApart k.config
apart_ready k host v r = record { own = r.handles_open.own; unread = r.unread }

abbrev none_played : (m : Moment) → IsApart m.kernel.config → Played m [] m
none_played m apart = record {
  answers = [];
  steps = between_same m;
  follows = steps_follow m [] [] m apart (between_same m);
  counted = steps_count m [] [] m (between_same m);
  costs = steps_cost m [] [] m (between_same m);
}

-- or a front of it
came_not : (l : Listing) (s : Status) (script : List ℕ) (p : Part) (text : Option (List ℕ)) (step : LineStep) (line : List ℕ) (before : ℕ) (c : Config) (k last : Kernel) (old read begun new : HostView) (v u w : StoreView)
    → IsPlaced p → Opened script p.devices old read begun → LaterFaults old begun → IsWired p c → IsBooted c k v u → IsReady k begun u → IsReady last new w → new.tried ≡ begun.tried
    → NotBegun s (moment k begun u) (moment last new w) → Came l s script p text step line before last old new v w
came_not l s script p text step line before c k last old read begun new v u w placed opened later wired booted start end tried b =
    rw b.failed (subst (λ (x : Kernel). IsReady x new w → Came l status.HostFault script p text step line before x old new v w) (sym b.kernel)
    (subst (λ (y : StoreView). IsReady k new y → Came l status.HostFault script p text step line before k old new v y) (sym b.store)
    (λ end.
    let started : Started script p old read begun new v c k u = record { placed = placed; opened = opened; later = later_trans old begun new later b.later; only = b.only; wired = wired; booted = booted; ready = start } in
    let w = rw opened.replies at b.written in
    record {
      done = [];
      ran = ran script p old read begun new new v u u c k k [] started end refl tried (none_played (moment k new u) (apart_ready k begun u start));
      written = (w.0, (w.1, w.2), w.3);
      told = nothing_stepped text step line before;
    })) end)

pub came : (l : Listing) (s : Status) (script : List ℕ) (p : Part) (text : Option (List ℕ)) (step : LineStep) (line : List ℕ) (before : ℕ) (last : Kernel) (old read begun new : HostView) (v w : StoreView)
    → IsPlaced p → Opened script p.devices old read begun → LaterFaults old begun → HoldsOfInputs (IsReading begun) 1 p.devices → HoldsOfOutputs (IsWriting begun) 1 p.devices → IsReady last new w
    → RunsOver l p text step line before s last begun new v w → Came l s script p text step line before last old new v w
came l s script p text step line before last old read begun new v w placed opened later i o end r = by (ready p r.config r.kernel v r.store begun placed r.wired r.booted i o) r.begins where
  by : IsReady r.kernel begun r.store → Begins l s text step line before (moment r.kernel begun r.store) (moment last new w) → Came l s script p text step line before last old new v w
  by start (inl b) = came_began l s script p text step line before r.config r.kernel last old read begun new v r.store w placed opened later r.wired r.booted start end r.kept r.tried b
  by start (inr b) = came_not l s script p text step line before r.config r.kernel last old read begun new v r.store w placed opened later r.wired r.booted start end r.tried b

ends_by : (s : Status) (e : Ending) → s ≢ status.NoMemory → EndsAs s e → EndsBy s e
ends_by status.HostFault e ne x = tt
ends_by status.NoMemory e ne x = absurd (ne refl)
ends_by status.Done e ne x = x
ends_by status.Usage e ne x = x
ends_by (status.BadLine l) e ne x = x
ends_by status.TooLong e ne x = x
ends_by (status.BadBoot l) e ne x = x

all_runs : (l : Listing) (script : List ℕ) (p : Part) (done all : List Numbered) (last : Kernel) (old new : HostView) (v w : StoreView) (r : Ran script p (events_of done) last old new v w) → all ≡ done → Appends (old.handle 0).bytes (new.handle 0).bytes (okay ++ all_said l r.run.answers) → RanAll l script p all (Some last) old new v w
all_runs l script p done all last old new v w r is written = rw is (record { last = last; handed = refl; ran = r; written = written })

runs_by : (l : Listing) (s : Status) (script : List ℕ) (p : Part) (done all : List Numbered) (last : Kernel) (old new : HostView) (v w : StoreView) → s ≢ status.NoMemory → (r : Ran script p (events_of done) last old new v w) → AreStepped s done all → WritesAfter l s (old.handle 0).bytes (new.handle 0).bytes r.run.answers → RunsBy l s script p all (Some last) old new v w
runs_by l status.HostFault script p done all last old new v w ne r a written = inr (record { done = done; left = a.0; split = a.1; last = last; handed = refl; ran = r; written = written })
runs_by l status.NoMemory script p done all last old new v w ne r a written = absurd (ne refl)
runs_by l status.Done script p done all last old new v w ne r a written = all_runs l script p done all last old new v w r a written
runs_by l status.Usage script p done all last old new v w ne r a written = all_runs l script p done all last old new v w r a written
runs_by l (status.BadLine n) script p done all last old new v w ne r a written = all_runs l script p done all last old new v w r a written
runs_by l status.TooLong script p done all last old new v w ne r a written = all_runs l script p done all last old new v w r a written
runs_by l (status.BadBoot n) script p done all last old new v w ne r a written = all_runs l script p done all last old new v w r a written

-- of a script that is told
pub came_told : (l : Listing) (s : Status) (script : List ℕ) (p : Part) (text : List ℕ) (step : LineStep) (line : List ℕ) (before : ℕ) (lines : List (List ℕ)) (last : Kernel) (old new : HostView) (v w : StoreView)
    → s ≢ status.NoMemory → IsPending lines step line text → Came l s script p (Some text) step line before last old new v w → EndsBy s (ending_from before lines) × RunsBy l s script p (events_from before lines) (Some last) old new v w
came_told l s script p text step line before lines last old new v w ne pending c =
    let x = c.told lines pending in
    (ends_by s (ending_from before lines) ne x.0, runs_by l s script p c.done (events_from before lines) last old new v w ne c.ran x.1 c.written)

all_of : (s : Status) (done : List Numbered) → AreStepped s done done
all_of status.HostFault done = ([], sym (append-nil done))
all_of status.NoMemory done = refl
all_of status.Done done = refl
all_of status.Usage done = refl
all_of (status.BadLine l) done = refl
all_of status.TooLong done = refl
all_of (status.BadBoot l) done = refl

-- and of one that isn't
pub came_some : (l : Listing) (s : Status) (script : List ℕ) (p : Part) (text : Option (List ℕ)) (step : LineStep) (line : List ℕ) (before : ℕ) (last : Kernel) (old new : HostView) (v w : StoreView)
    → s ≢ status.NoMemory → Came l s script p text step line before last old new v w → (q : Part) × (events : List Numbered) × RunsBy l s script q events (Some last) old new v w
came_some l s script p text step line before last old new v w ne c = (p, c.done, runs_by l s script p c.done c.done last old new v w ne c.ran (all_of s c.done) c.written)
