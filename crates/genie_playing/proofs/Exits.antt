-- How the loop over the lines is left.
use Rattle.std.proofs.Common.{◌≡◌, ◌≢◌, ℕ, ◌+◌, ◌≤◌, List, [], ◌∷◌, ◌++◌, refl, ap, sym, ◌∙◌, append_assoc, arith, inl, inr}
use Rattle.std.specs.Prelude.{Option, Some, None, Err}
use Rattle.std.specs.Io.KnownBytes.{Appends}
use Rattle.genie_base.specs.Causes.{Rose}
use Rattle.genie_base.specs.declared.event.Event.{Event}
use Rattle.genie_host.specs.Host.{HostView, OnlyHandle}
use Rattle.genie_script.specs.Judge.{Numbered}
use Rattle.genie_script.specs.declared.judge.Ending.{Ending}
use Rattle.genie_script.specs.declared.judge.Ending.TheVariants as ending
use Rattle.genie_script.specs.declared.judge.Judged.{Judged}
use Rattle.genie_script.specs.declared.judge.Judged.TheVariants.{Passed, Taken, Ends}
use Rattle.genie_replay.specs.declared.script.LineStep.{LineStep}
use Rattle.genie_replay.specs.declared.status.Status.{Status}
use Rattle.genie_replay.specs.declared.status.Status.TheVariants as status
use Rattle.genie_replay.specs.Outcome.{events_of}
use Rattle.genie_replay.specs.Statuses.{status_of}
use Rattle.genie_replay.specs.Lemmas.Remaining.{NextIs, NoneLeft, SomeLeft}
use Rattle.genie_replay.specs.Lemmas.Writing.{appends_more, ends_all, ends_more}
use Rattle.genie_playing.specs.declared.costs.Listing.{Listing}
use Rattle.genie_playing.specs.declared.serving.Stop.TheVariants as stop
use Rattle.genie_playing.specs.Costs.{Answer, all_said, said}
use Rattle.genie_playing.specs.Moments.{Moment, Steps, moment}
use Rattle.genie_playing.specs.Plays.{AreStepped, EndsAs, IsOfScript, Leaves, Played, Plays, Writes}
use Rattle.genie_playing.specs.Serving.{Answers, TakesLine}
use Rattle.genie_playing.specs.Lemmas.Costing.{steps_cost}
use Rattle.genie_playing.specs.Lemmas.Counting.{steps_count}
use Rattle.genie_playing.specs.Lemmas.Showing.{IsApart}
use Rattle.genie_playing.specs.Lemmas.Stepping.{steps_follow, steps_more, steps_on}
use Rattle.genie_playing.specs.Lemmas.Writing.{only_between}
use Rattle.genie_playing.proofs.Playing.{SameOuter, SoFar, events_more, now_apart, outer_step, replies_kept}

-- what was stepped
abbrev played : (start last : Moment) (es : List Event) (answers : List Answer) → IsApart start.kernel.config → Steps start es answers last → Played start es last
played start last es answers apart s = record {
  answers = answers;
  steps = s;
  follows = steps_follow start es answers last apart s;
  counted = steps_count start es answers last s;
  costs = steps_cost start es answers last s;
}

ends_as : (e f : Ending) → f ≡ e → EndsAs (status_of e) f
ends_as ending.End f is = ap status_of (sym is)
ends_as (ending.BadLine l) f is = ap status_of (sym is)
ends_as ending.TooLong f is = ap status_of (sym is)
ends_as (ending.BadBoot l) f is = ap status_of (sym is)

all_stepped : (e : Ending) (done events : List Numbered) → events ≡ done → AreStepped (status_of e) done events
all_stepped ending.End done events is = is
all_stepped (ending.BadLine l) done events is = is
all_stepped ending.TooLong done events is = is
all_stepped (ending.BadBoot l) done events is = is

all_written : (l : Listing) (e : Ending) (old new : Option (List ℕ)) (answers : List Answer) → Appends old new (all_said l answers) → Writes l (status_of e) old new answers
all_written l ending.End old new answers w = w
all_written l (ending.BadLine n) old new answers w = w
all_written l ending.TooLong old new answers w = w
all_written l (ending.BadBoot n) old new answers w = w

of_script : (e : Ending) (text : Option (List ℕ)) (step : LineStep) (line : List ℕ) (before : ℕ) (done : List Numbered) → NoneLeft text step line before done e → IsOfScript (status_of e) text step line before done
of_script e None step line before done n = tt
of_script e (Some text) step line before done n = λ lines pending. let x = n lines pending in (ends_as e _ x.1, all_stepped e done _ x.0)

-- the script ends so
pub at_ending : (listing : Listing) (e : Ending) (text : Option (List ℕ)) (step : LineStep) (line : List ℕ) (before : ℕ) (start now : Moment) (at : ℕ) (Left : List Numbered → Type 0)
    → (so : SoFar listing start now at Left) → NoneLeft text step line before so.done e → Plays listing (status_of e) text step line before start now
at_ending listing e text step line before start now at Left so n = record {
  events = so.done;
  run = played start now (events_of so.done) so.answers so.apart so.steps;
  written = all_written listing e _ _ so.answers so.written;
  told = of_script e text step line before so.done n;
}

-- what a line's step says of a stop
pub stopped_ended : (listing : Listing) (judged : Judged Event) (now after : Moment) (e : Ending) → TakesLine listing judged now after (Err (stop.Ended e)) → (Ends e ≡ judged) × (after ≡ now)
stopped_ended listing Passed now after e t = absurd t
stopped_ended listing (Taken x) now after e t = absurd (let host = t.stop in cc)
stopped_ended listing (Ends x) now after e t = let same : e ≡ x = let is = t.0 in cc in (ap Ends same, t.1)

pub record StoppedAt (listing : Listing) (judged : Judged Event) (now after : Moment) : Type 0 where
  pub event : Event
  pub is : Taken event ≡ judged
  pub how : Answers listing now event after (Err stop.Host)

pub stopped_host : (listing : Listing) (judged : Judged Event) (now after : Moment) → TakesLine listing judged now after (Err stop.Host) → StoppedAt listing judged now after
stopped_host listing Passed now after t = absurd t
stopped_host listing (Taken x) now after t = record { event = x; is = refl; how = t }
stopped_host listing (Ends x) now after t = absurd (let is = t.0 in cc)

-- a failure of the host
part_of : (text : Option (List ℕ)) (step : LineStep) (line : List ℕ) (before : ℕ) (done : List Numbered) → SomeLeft text step line before done → IsOfScript status.HostFault text step line before done
part_of None step line before done l = tt
part_of (Some text) step line before done l = λ lines pending. (tt, l lines pending)

-- the next line couldn't be read
pub at_unread : (listing : Listing) (text : Option (List ℕ)) (step : LineStep) (line : List ℕ) (before : ℕ) (start now : Moment) (w : HostView) (at : ℕ) (Left : List Numbered → Type 0)
    → (so : SoFar listing start now at Left) → OnlyHandle 1 now.host w → (now.host.handle 1).faults ≤ (w.handle 1).faults → SomeLeft text step line before so.done → Plays listing status.HostFault text step line before start (moment now.kernel w now.store)
at_unread listing text step line before start now w at Left so only later l =
    let replies : w.handle 0 ≡ now.host.handle 0 = only.others 0 (λ e. cc) in
    let new = moment now.kernel w now.store in
    record {
      events = so.done;
      run = played start new (events_of so.done) so.answers so.apart (steps_on start (events_of so.done) so.answers now new so.steps (only_between 1 now.kernel now.host w now.store (inr refl) only later));
      written = (all_said listing so.answers, ends_all (said listing) so.answers, rw replies so.written);
      told = part_of text step line before so.done l;
    }

next_some : (text : Option (List ℕ)) (step : LineStep) (line : List ℕ) (before : ℕ) (done : List Numbered) (n : Numbered) → NextIs text step line before done n → SomeLeft text step line before (done ++ n ∷ [])
next_some None step line before done n x = tt
next_some (Some text) step line before done n x = λ lines pending. let y = x lines pending in (y.0, y.1 ∙ sym (append_assoc done (n ∷ []) y.0))

-- the reply to an event was written in part
pub at_host : (listing : Listing) (text : Option (List ℕ)) (step : LineStep) (line : List ℕ) (before : ℕ) (start now after : Moment) (at : ℕ) (Left : List Numbered → Type 0) (e : Event)
    → (so : SoFar listing start now at Left) → Answers listing now e after (Err stop.Host) → NextIs text step line before so.done (at + 1, e) → Plays listing status.HostFault text step line before start after
at_host listing text step line before start now after at Left e so t next =
    let mid = moment after.kernel t.stepped after.store in
    let replies = replies_kept now mid e t.answer.reply (now_apart listing start now at Left so) t.steps.serves in
    let front = rw replies at t.write.front in
    let later : (t.stepped.handle 0).faults ≤ (after.host.handle 0).faults = t.write.cause.later in
    record {
      events = so.done ++ (at + 1, e) ∷ [];
      run = played start after (events_of (so.done ++ (at + 1, e) ∷ [])) (so.answers ++ t.answer ∷ []) so.apart (rw (events_more so.done (at + 1, e)) (steps_more start (events_of so.done) so.answers now e t.answer mid after so.steps t.steps (only_between 0 after.kernel t.stepped after.host after.store (inl refl) t.write.only later)));
      written = (
        all_said listing so.answers ++ front.0,
        ends_more (said listing) so.answers t.answer front.0 front.1 front.2,
        appends_more (start.host.handle 0).bytes (now.host.handle 0).bytes (after.host.handle 0).bytes (all_said listing so.answers) front.0 so.written front.3,
      );
      told = part_of text step line before (so.done ++ (at + 1, e) ∷ []) (next_some text step line before so.done (at + 1, e) next);
    }

not_fault : (e : Ending) → status_of e ≢ status.HostFault
not_fault ending.End = λ x. cc
not_fault (ending.BadLine l) = λ x. cc
not_fault ending.TooLong = λ x. cc
not_fault (ending.BadBoot l) = λ x. cc

-- nothing failed
pub leaves_ending : (listing : Listing) (e : Ending) (start now : Moment) (at : ℕ) (Left : List Numbered → Type 0) → SoFar listing start now at Left → Leaves (status_of e) start.host now.host
leaves_ending listing e start now at Left so = record { tried = so.outer.tried; opened = so.outer.opened; refusals = so.outer.refusals; cause = λ x. absurd (not_fault e x) }

-- a call on the replies or the script failed
leaves_failed : (h : ℕ) (start u w : HostView) → h ≤ 1 → (u.handle h).faults ≡ (start.handle h).faults → SameOuter start u → OnlyHandle h u w → Rose (u.handle h).faults (w.handle h).faults → Leaves status.HostFault start w
leaves_failed h start u w low count outer only rose = record {
  tried = only.tried ∙ outer.tried;
  opened = only.opened ∙ outer.opened;
  refusals = only.refusals ∙ outer.refusals;
  cause = λ e. (h, low, rw (← count) rose);
}

pub leaves_unread : (listing : Listing) (start now : Moment) (w : HostView) (at : ℕ) (Left : List Numbered → Type 0) → SoFar listing start now at Left → OnlyHandle 1 now.host w → Rose (now.host.handle 1).faults (w.handle 1).faults → Leaves status.HostFault start.host w
leaves_unread listing start now w at Left so only rose = leaves_failed 1 start.host now.host w (omega arith) so.outer.script_count so.outer only rose

pub leaves_unwritten : (listing : Listing) (start now after : Moment) (at : ℕ) (Left : List Numbered → Type 0) (e : Event) → SoFar listing start now at Left → Answers listing now e after (Err stop.Host) → Leaves status.HostFault start.host after.host
leaves_unwritten listing start now after at Left e so t =
    let mid = moment after.kernel t.stepped after.store in
    let outer = outer_step start.host now mid e t.answer.reply (now_apart listing start now at Left so) t.steps.serves so.outer in
    leaves_failed 0 start.host t.stepped after.host (omega arith) outer.replies_count outer t.write.only t.write.cause.failed

-- The same where a line's step has left the kernel, the host and the store as they are.

pub at_stop : (listing : Listing) (e : Ending) (s : Status) (text : Option (List ℕ)) (step : LineStep) (line : List ℕ) (before : ℕ) (start now after : Moment) (at : ℕ) (Left : List Numbered → Type 0)
    → s ≡ status_of e → after ≡ now → (so : SoFar listing start now at Left) → NoneLeft text step line before so.done e → Plays listing s text step line before start after
at_stop listing e s text step line before start now after at Left is same so n = rw (is, same) (at_ending listing e text step line before start now at Left so n)

pub leaves_stop : (listing : Listing) (e : Ending) (s : Status) (start now after : Moment) (at : ℕ) (Left : List Numbered → Type 0) → s ≡ status_of e → after ≡ now → SoFar listing start now at Left → Leaves s start.host after.host
leaves_stop listing e s start now after at Left is same so = rw (is, same) (leaves_ending listing e start now at Left so)

pub config_stop : (listing : Listing) (start now after : Moment) (at : ℕ) (Left : List Numbered → Type 0) → after ≡ now → SoFar listing start now at Left → after.kernel.config ≡ start.kernel.config
config_stop listing start now after at Left same so = rw same so.config
