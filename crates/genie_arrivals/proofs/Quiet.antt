-- A transfer ends, and nothing changes but that what was lent for it is given back.
use Rattle.std.proofs.Common.{◌≡◌, ℕ, Bool, true, false, List, refl, sym, ◌∙◌}
use Rattle.std.specs.Prelude.{Option, Some, None, find, is_some, not, ◌&&◌}
use Rattle.genie_base.specs.Events.{mark_of}
use Rattle.genie_base.specs.declared.event.Event.TheVariants.{Finish}
use Rattle.genie_base.specs.declared.reply.Mark.TheVariants.{NoFault}
use Rattle.genie_base.specs.declared.reply.Reply.{Reply}
use Rattle.genie_frame.specs.FrameTable.{FrameTable, IsShaped, AreLoansOwned}
use Rattle.genie_object.specs.declared.memory.Memory.{Memory}
use Rattle.genie_model.specs.Ending.{without_transfer, finish}
use Rattle.genie_model.specs.Pending.{is_ready}
use Rattle.genie_model.specs.Refusing.{refuse}
use Rattle.genie_model.specs.Space.{tidy}
use Rattle.genie_model.specs.Tables.{entry}
use Rattle.genie_orderly.specs.Orderly.{IsOrderly}
use Rattle.genie_kernel.specs.declared.kernel.Kernel.{Kernel}
use Rattle.genie_kernel.specs.declared.transfer.Transfer.{Transfer}
use Rattle.genie_kernel.specs.Calls.{has_number, has_arrived}
use Rattle.genie_store.specs.StoreView.{StoreView}
use Rattle.genie_object.specs.Sound.{IsSized}
use Rattle.genie_kernel.specs.Good.{IsGood}
use Rattle.genie_kernel.specs.Kept.{Kept}
use Rattle.genie_kernel.specs.Planned.{is_early_device}
use Rattle.genie_kernel.specs.Steps.{Steps, bytes_over}
use Rattle.genie_kernel.specs.View.{Bytes, state_of, outline, no_bytes}
use Rattle.genie_model.specs.Lemmas.Lists.{all_has, find_has}
use Rattle.genie_changes.specs.Ending.{IsGivenBack, LeavesOthers, without_call}
use Rattle.genie_changes.specs.Settled.{IsSettled}
use Rattle.genie_arrivals.specs.EndLaws.{EndLaws}
use Rattle.genie_arrivals.specs.Ends.{EndsAlone}
use Rattle.genie_arrivals.proofs.Found.{IsIdle, ready_idle}
use Rattle.genie_arrivals.proofs.Replying.{outcome, quiet_steps}

buffer_none : (o : Option ℕ) (a e : Bool) → is_some o ≡ (a && not e) → e ≡ true → o ≡ None
buffer_none None a e is early = refl
buffer_none (Some b) true true is early = absurd (cc)
buffer_none (Some b) false true is early = absurd (cc)
buffer_none (Some b) a false is early = absurd (cc)

-- an input of an early device has no buffer of the device's
pub unbuffered : (k : Kernel) (n : ℕ) (t : Transfer) → IsGood k → find (has_number n) k.transfers ≡ Some t → is_early_device (entry k.devices t.dev) ≡ true → t.buffer ≡ None
unbuffered k n t g found early = buffer_none t.buffer (has_arrived t.dev t) (is_early_device (entry k.devices t.dev)) (all_has (λ (u : Transfer). is_some u.buffer ≡ (has_arrived u.dev u && not (is_early_device (entry k.devices u.dev)))) k.transfers g.arrived.inputs t (find_has (has_number n) k.transfers t found).0) early

module _ (laws : EndLaws) (k : Kernel) (n : ℕ) (t : Transfer) (g : IsGood k) (found : find (has_number n) k.transfers ≡ Some t) (ready : is_ready t.phase ≡ true) where
  abbrev pub idle : IsIdle t.phase
  idle = ready_idle t.phase ready

  -- the outline without the transfer
  pub outline_less : (m : Memory) → outline (without_call k m n k.posted) ≡ tidy (without_transfer (outline k) n)
  outline_less m = laws.leaves k m n t k.posted (no_bytes k.config.page) (no_bytes k.config.page) g found idle.unqueued idle.unmoved (laws.outlines k n)

  module _ (F : FrameTable) (shaped : IsShaped F.page F.owners F.counts F.bytes) (owned : AreLoansOwned F.owners F.counts) (back : IsGivenBack t k.memory.frames F) (early : is_early_device (entry k.devices t.dev) ≡ true) where
    abbrev pub ended : Memory
    ended = record (k.memory) { frames = F }

    -- the kernel without the transfer
    abbrev pub less : Kernel
    less = without_call k ended n k.posted

    settled : IsSettled k
    settled = laws.settled k g

    others : LeavesOthers n t k.transfers k.pools k.memory ended
    others = laws.given k.config.page k.memory k.devices n t k.transfers k.pools F (laws.lends k n settled) found shaped owned back

    pub less_settled : IsSettled less
    less_settled = laws.ends k ended n t k.posted k.devices k.pools settled found idle.unqueued idle.unmoved (laws.ended k n t F settled back others) (laws.unbuffered k t settled (unbuffered k n t g found early)) (laws.posted (has_number n) t k.posted k.transfers found idle.unposted g.posted)

    pub less_kept : Kept k less
    less_kept = laws.kept k ended n t k.posted settled found others

    pub less_shown : (slots rests sents : ℕ → List ℕ) → state_of less (bytes_over ended slots rests sents) ≡ tidy (without_transfer (state_of k (bytes_over k.memory slots rests sents)) n)
    less_shown slots rests sents = laws.leaves k ended n t k.posted (bytes_over k.memory slots rests sents) (bytes_over ended slots rests sents) g found idle.unqueued idle.unmoved (laws.shows k ended n t slots rests sents settled others)

    pub less_sized : (v : StoreView) → IsSized k.memory v → IsSized ended v
    less_sized v s = record { count = s.count; page = s.page ∙ sym (back.loans.page ∙ back.wires.only.page) }

    module _ (r : Reply) (mark : mark_of r ≡ NoFault) (fin : (b : Bytes) → finish (state_of k b) n ≡ outcome (without_transfer (state_of k b) n) r) (accepted : refuse (outline k) (Finish n) ≡ None) where
      orderly : IsOrderly (outline less)
      orderly =
          let steps : Steps (outline k) (Finish n) (outline less) r = quiet_steps (outline k) (outline less) n r (without_transfer (outline k) n) (fin (no_bytes k.config.page)) mark (outline_less ended) in
          laws.orderly (outline k) (outline less) (Finish n) r refl accepted steps g.orderly

      -- the end of a transfer whose bytes are in place
      pub ends_quietly : EndsAlone k n less r
      ends_quietly = record {
        good = laws.good less less_settled orderly;
        sized = less_sized;
        kept = less_kept;
        step = λ slots rests sents. quiet_steps (state_of k (bytes_over k.memory slots rests sents)) (state_of less (bytes_over ended slots rests sents)) n r (without_transfer (state_of k (bytes_over k.memory slots rests sents)) n) (fin (bytes_over k.memory slots rests sents)) mark (less_shown slots rests sents);
        config = refl;
        numbers = refl;
        unfailed = mark;
        meters = back.loans.meters ∙ back.wires.only.meters;
        landed = back.loans.landed ∙ back.wires.only.landed;
      }
