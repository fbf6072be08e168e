-- The failures that replies show, and the counts that rose for them.
use Rattle.std.specs.Prelude.{ℕ, ◌+◌, ◌-◌, ◌^◌, ◌≤◌, ◌==◌, ◌&&◌, min, Bool, true, false, List, [], ◌∷◌}
use Rattle.genie_base.specs.Causes.{Rose}
use Rattle.genie_base.specs.Events.{mark_of}
use Rattle.genie_base.specs.declared.config.Config.{Config}
use Rattle.genie_base.specs.declared.event.Event.{Event}
use Rattle.genie_base.specs.declared.reply.Mark.{Mark}
use Rattle.genie_base.specs.declared.reply.Mark.TheVariants as mark
use Rattle.genie_base.specs.declared.reply.Reply.{Reply}
use Rattle.genie_host.specs.Host.{HostView}
use Rattle.genie_store.specs.StoreView.{StoreView}
use Rattle.genie_orderly.specs.Steps.{ShowNoFault}
use Rattle.genie_calls.specs.Serving.{Outside, Nothing, TheStore, TheHandle, touched_by}

-- a count rose by n at least, or stands at its type's end
abbrev pub RoseBy : ℕ → ℕ → ℕ → Type 0
RoseBy n before now = min (before + n) (2 ^ 64 - 1) ≤ now

abbrev pub is_at : ℕ → Outside → Bool
is_at h Nothing = false
is_at h TheStore = false
is_at h (TheHandle k) = k == h

abbrev pub is_device : Mark → Bool
is_device mark.NoFault = false
is_device (mark.Device n) = true
is_device mark.Store = false

abbrev pub is_store : Mark → Bool
is_store mark.NoFault = false
is_store (mark.Device n) = false
is_store mark.Store = true

abbrev pub one_if : Bool → ℕ
one_if true = 1
one_if false = 0

-- the reply is `fault K`, to an event that moves bytes through this handle
abbrev pub is_fault_at : Config → ℕ → Event → Reply → Bool
is_fault_at c h e r = is_at h (touched_by c e) && is_device (mark_of r)

-- how many such replies there are
abbrev pub faults_at : Config → ℕ → List Event → List Reply → ℕ
faults_at c h [] rs = 0
faults_at c h (e ∷ es) [] = 0
faults_at c h (e ∷ es) (r ∷ rs) = one_if (is_fault_at c h e r) + faults_at c h es rs

-- how many replies are `fault store`
abbrev pub store_faults : List Reply → ℕ
store_faults [] = 0
store_faults (r ∷ replies) = one_if (is_store (mark_of r)) + store_faults replies

-- no count rose
pub record NoneRose (old new : HostView) (v w : StoreView) : Type 0 where
  pub handles : (h : ℕ) → Rose (old.handle h).faults (new.handle h).faults → ⊥
  pub store : Rose v.faults w.faults → ⊥

-- The count of each handle rose as often at least as a reply says that it failed, and so did that of the store. Where no
-- count rose, no reply shows a failure.
pub record AreCounted (c : Config) (events : List Event) (replies : List Reply) (old new : HostView) (v w : StoreView) : Type 0 where
  pub handles : (h : ℕ) → RoseBy (faults_at c h events replies) (old.handle h).faults (new.handle h).faults
  pub store : RoseBy (store_faults replies) v.faults w.faults
  pub none : NoneRose old new v w → ShowNoFault replies
