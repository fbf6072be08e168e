-- A posted input of the system's that is taken back: the kernel without it, before its region is given up.
use Rattle.std.proofs.Common.{◌≡◌, ℕ, true, refl, ap, subst, sym, ◌∙◌, find}
use Rattle.std.specs.Prelude.{Option, Some, None, IfSome}
use Rattle.genie_base.specs.Transfers.{class_of}
use Rattle.genie_base.specs.declared.event.Event.TheVariants.{Cancel}
use Rattle.genie_base.specs.declared.region.RegionState.{RegionState}
use Rattle.genie_base.specs.declared.reply.Reply.TheVariants as reply
use Rattle.genie_base.specs.declared.semantics.Class.{Class}
use Rattle.genie_demux.specs.Posted as demux
use Rattle.genie_region.specs.Layouts as layouts
use Rattle.genie_space.specs.Spaces as spaces
use Rattle.genie_model.specs.Ending.{cancel_found, region_of, without_transfer}
use Rattle.genie_model.specs.Outputs.{give_up}
use Rattle.genie_model.specs.Pending.{is_posted}
use Rattle.genie_model.specs.Refusing.{refuse}
use Rattle.genie_model.specs.Space.{tidy}
use Rattle.genie_model.specs.State as flat
use Rattle.genie_model.specs.Step.{accept, tidied}
use Rattle.genie_model.specs.Tables.{without}
use Rattle.genie_orderly.specs.Orderly.{fills_state}
use Rattle.genie_kernel.specs.declared.kernel.Kernel.{Kernel}
use Rattle.genie_kernel.specs.declared.transfer.Transfer.{Transfer}
use Rattle.genie_kernel.specs.Calls.{has_number}
use Rattle.genie_kernel.specs.Good.{IsGood}
use Rattle.genie_kernel.specs.Kept.{Kept}
use Rattle.genie_kernel.specs.Matching.{ArePosted}
use Rattle.genie_kernel.specs.Regions.{region_view}
use Rattle.genie_kernel.specs.View.{Bytes, state_of, outline}
use Rattle.genie_changes.specs.Ending.{ShowsOthers, without_call}
use Rattle.genie_changes.specs.Settled.{IsSettled}
use Rattle.genie_endings.specs.EndingLaws.{EndingLaws}
use Rattle.genie_endings.specs.Ends.{EndsCall}
use Rattle.genie_endings.specs.Named.{named}
use Rattle.genie_endings.specs.Serving.{IsServed}
use Rattle.genie_endings.specs.declared.region.Placed.{Placed}
use Rattle.genie_endings.proofs.Filled.{IsNamed, MayMove, may_move, named_is, region_none, region_some}
use Rattle.genie_endings.proofs.Phases.{IsIdle, pending_seen, posted_idle, posted_phase, seen_as}
use Rattle.genie_endings.proofs.Served.{left_served, left_settled, left_state}

-- the kernel without the input
abbrev pub cancelled : Kernel → ℕ → Kernel
cancelled j n = record j { posted = demux.without n j.posted }

-- a call of a class that fills regions of a state
abbrev pub IsOf : Class → Option Transfer → Type 0
IsOf class o = IfSome o (λ (t : Transfer). class_of t.sem ≡ class)

module _ (laws : EndingLaws) (k mid : Kernel) (n : ℕ) (t : Transfer) (class : Class) (state : RegionState) (fits : fills_state state class ≡ true) (g : IsGood k) (h : refuse (outline k) (Cancel n) ≡ None) (of_class : IsOf class (find (has_number n) k.transfers)) (ends : EndsCall n k mid t) where
  pub is_class : class_of t.sem ≡ class
  is_class = subst (IsOf class) ends.found of_class

  pub suits : fills_state state (class_of t.sem) ≡ true
  suits = ap (fills_state state) is_class ∙ fits

  pub waits : is_posted t.phase ≡ true
  waits = posted_phase k n t g ends.found h

  idle : IsIdle t
  idle = posted_idle k n t g ends.found h

  listed : ArePosted (demux.without n k.posted) (without (has_number n) k.transfers)
  listed = laws.posted n k.posted k.transfers (laws.settled k g).rising g.posted

  abbrev pub left : Kernel
  left = without_call k (record (k.memory) { frames = mid.memory.frames }) n (demux.without n k.posted)

  pub mid_is : cancelled mid n ≡ left
  mid_is = ap (λ (j : Kernel). cancelled j n) ends.only

  pub settled : IsSettled left
  settled = left_settled laws k mid.memory.frames n t (demux.without n k.posted) g ends.found ends.back ends.leaves idle listed

  pub kept : Kept k left
  kept = laws.kept k (record (k.memory) { frames = mid.memory.frames }) n t (demux.without n k.posted) (laws.settled k g) ends.found ends.leaves

  pub gone_state : (old new : Bytes) → ShowsOthers k n old new → state_of left new ≡ tidy (without_transfer (state_of k old) n)
  gone_state old new shows = left_state laws k mid.memory.frames n t (demux.without n k.posted) g ends.found ends.back ends.leaves idle listed old new shows

  -- what the event does
  cancels : (b : Bytes) (o : Option flat.Region) → region_of (state_of k b) (seen_as k b t) ≡ o → accept (state_of k b) (Cancel n) ≡ (tidy (give_up (without_transfer (state_of k b) n) class o), reply.Okay)
  cancels b o is =
      ap (λ x. tidied (cancel_found (state_of k b) n x)) (pending_seen k b n (Some t) ends.found)
      ∙ ap (λ (c : Class). tidied (give_up (without_transfer (state_of k b) n) c (region_of (state_of k b) (seen_as k b t)), reply.Okay)) is_class
      ∙ ap (λ x. tidied (give_up (without_transfer (state_of k b) n) class x, reply.Okay)) is

  pub none_served : named (cancelled mid n).spaces t.owner t.region ≡ None → IsServed k (Cancel n) (cancelled mid n) reply.Okay
  none_served none =
      let absent : named k.spaces t.owner t.region ≡ None = ap (λ (j : Kernel). named j.spaces t.owner t.region) (sym mid_is) ∙ none in
      subst (λ (j : Kernel). IsServed k (Cancel n) j reply.Okay) (sym mid_is)
      (left_served laws k mid.memory.frames n t (demux.without n k.posted) g ends.found ends.back ends.leaves idle listed (Cancel n) reply.Okay refl h refl
      (λ b. cancels b None (region_none k n t state g ends.found waits suits b absent)))

  module _ (x : Placed) (named_some : named (cancelled mid n).spaces t.owner t.region ≡ Some x) where
    pub is : IsNamed k.spaces.processes t.owner t.region x.pid x.region
    is = named_is k.spaces t.owner t.region x (ap (λ (j : Kernel). named j.spaces t.owner t.region) (sym mid_is) ∙ named_some)

    moves : MayMove k n t state g ends.found waits suits x.pid x.region
    moves = may_move k n t state g ends.found waits suits x.pid x.region is

    pub may_there : layouts.region_of x.region.id (spaces.regions_of x.pid (cancelled mid n).spaces) ≡ Some x.region
    may_there = subst (λ (j : Kernel). layouts.region_of x.region.id (spaces.regions_of x.pid j.spaces) ≡ Some x.region) (sym mid_is) moves.there

    pub gives_up : (b : Bytes) → accept (state_of k b) (Cancel n) ≡ (tidy (give_up (without_transfer (state_of k b) n) class (Some (region_view b.seen.entry_bytes x.region))), reply.Okay)
    gives_up b = cancels b (Some (region_view b.seen.entry_bytes x.region)) (region_some k n t state g ends.found waits suits laws.settled b x.pid x.region is)
