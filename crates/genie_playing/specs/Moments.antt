-- A kernel that is stepped event by event, over a host and a store.
use Rattle.std.specs.Prelude.{◌≡◌, ◌≢◌, ℕ, ◌+◌, ◌-◌, ◌^◌, ◌<◌, ◌≤◌, List, [], ◌∷◌, All, Option, None, Some, IsSome, ⊤}
use Rattle.genie_base.specs.Events.{mark_of}
use Rattle.genie_base.specs.declared.event.Event.{Event}
use Rattle.genie_base.specs.declared.reply.Reply.{Reply}
use Rattle.genie_frame.specs.declared.frame.Meters.{Meters}
use Rattle.genie_host.specs.Host.{HostView}
use Rattle.genie_store.specs.StoreView.{StoreView}
use Rattle.genie_object.specs.Costs.{AreBelow}
use Rattle.genie_object.specs.Sound.{IsSized}
use Rattle.genie_model.specs.Refusing.{refuse}
use Rattle.genie_model.specs.State.{State}
use Rattle.genie_model.specs.Step.{Follows}
use Rattle.genie_kernel.specs.declared.kernel.Kernel.{Kernel}
use Rattle.genie_kernel.specs.Good.{IsGood}
use Rattle.genie_kernel.specs.Handles.{HasHandles, KeepsOthers, handles}
use Rattle.genie_kernel.specs.Kept.{Kept}
use Rattle.genie_kernel.specs.Rising.{MetersRise}
use Rattle.genie_kernel.specs.Steps.{StepsTold}
use Rattle.genie_kernel.specs.View.{outline, view}
use Rattle.genie_copying.specs.Bounds.{KeepsToBound}
use Rattle.genie_changes.specs.Filling.{StepsFilled}
use Rattle.genie_calls.specs.Sharing.{Shares}
use Rattle.genie_calls.specs.Serving.{GetsWithin, IsTabled, LandsWithin, Touches, touched_by}
use Rattle.genie_replay.specs.Plays.{LaterFaults, OnlyRun}
use Rattle.genie_playing.specs.Costs.{Answer, raise}

-- a kernel, and the host and the store that it stands over
pub record Moment : Type 0 where
  pub kernel : Kernel
  pub host : HostView
  pub store : StoreView

abbrev pub moment : Kernel → HostView → StoreView → Moment
moment kernel host store = record { kernel = kernel; host = host; store = store }

-- the flat state that it stands for, where the host and the store tell their bytes
abbrev pub shown : Moment → Option State
shown m = view m.kernel m.host m.store

-- what was counted up to then
abbrev pub meters_of : Moment → Meters
meters_of m = m.kernel.memory.frames.meters

-- an event can be stepped: the kernel is good, over a store of its size; its handles are open, and none of them is the
-- script's
pub record IsReady (k : Kernel) (host : HostView) (store : StoreView) : Type 0 where
  pub good : IsGood k
  pub sized : IsSized k.memory store
  pub handles_open : HasHandles k.config host
  pub unread : All (λ (h : ℕ). h ≢ 1) (handles k.config)

-- nothing was counted yet but what a boot counts, and no number was given to a transfer
pub record IsFresh (k : Kernel) : Type 0 where
  pub meters : AreBelow (2 ^ 36) k.memory.frames.meters
  pub landed : k.memory.frames.landed ≤ 2 ^ 36
  pub numbers : k.next ≡ 1

-- there is room for what one event counts, and a number for a transfer
pub record HasRoom (k : Kernel) : Type 0 where
  pub meters : AreBelow (2 ^ 63) k.memory.frames.meters
  pub landed : k.memory.frames.landed < 2 ^ 63
  pub numbers : k.next < 2 ^ 32 - 1

-- One event is stepped: where bytes are told, as the flat machine steps it. A failure is answered only where the count of
-- the device's handle, or of the store, rose in this step, and no other handle changes. No frame is freed or gets another
-- owner while a device holds it. A refusal leaves the kernel as it is, what the processor copies keeps to the table, and
-- pages that may be shared are. What the host tells of one file is used, whatever it tells of the others: over every bytes
-- that these may have the event is stepped as the flat machine steps it (`StepsFilled`).
pub record Serves (old : Moment) (e : Event) (reply : Reply) (new : Moment) : Type 0 where
  pub step : StepsTold (shown old) e (shown new) reply
  pub cause : Touches (touched_by old.kernel.config e) (mark_of reply) old.host new.host old.store new.store
  pub others : KeepsOthers old.kernel.config old.host new.host
  pub kept : Kept old.kernel new.kernel
  pub config : new.kernel.config ≡ old.kernel.config
  pub rises : MetersRise (2 ^ 36) old.kernel.memory.frames new.kernel.memory.frames
  pub numbers : new.kernel.next ≤ old.kernel.next + 1
  pub refused : IsSome (refuse (outline old.kernel) e) → new.kernel ≡ old.kernel
  pub copying : IsTabled old.kernel e → KeepsToBound old.kernel e new.kernel reply
  pub sharing : Shares old.kernel e new.kernel reply
  pub filled : StepsFilled old.kernel e new.kernel reply old.host new.host old.store new.store
  pub lands : LandsWithin old.kernel e new.kernel
  pub gets : GetsWithin old.kernel e new.kernel

-- and this is how far the meters rose in it
pub record StepsTo (old : Moment) (e : Event) (a : Answer) (new : Moment) : Type 0 where
  pub serves : Serves old e a.reply new
  pub cost : a.cost ≡ raise (meters_of old) (meters_of new)

-- what is said of an event is written and a line is read: nothing else changes
pub record Between (old new : Moment) : Type 0 where
  pub kernel : new.kernel ≡ old.kernel
  pub host : OnlyRun old.host new.host
  pub later : LaterFaults old.host new.host
  pub store : new.store ≡ old.store

-- the kernel steps these events, one after the other, and answers so
abbrev pub Steps : Moment → List Event → List Answer → Moment → Type 0
Steps old [] [] new = Between old new
Steps old (e ∷ es) (a ∷ answers) new = (before : Moment) × (after : Moment) × Between old before × StepsTo before e a after × Steps after es answers new
Steps old [] (a ∷ answers) new = ⊥
Steps old (e ∷ es) [] new = ⊥

-- the same by the flat machine, from a state that is told
abbrev pub FollowsTold : Option State → List Event → List Reply → Option State → Type 0
FollowsTold None es rs new = ⊤
FollowsTold (Some s) es rs new = (last : State) × Follows s es rs last × (new ≡ Some last)
