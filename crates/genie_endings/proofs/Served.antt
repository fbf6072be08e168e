-- What is true once a transfer on which no device works has left a kernel.
use Rattle.std.proofs.Common.{◌≡◌, ℕ, List, refl, ap, sym, ◌∙◌}
use Rattle.std.specs.Prelude.{IsTrue, None, Some, find}
use Rattle.genie_base.specs.declared.config.Config.{Config}
use Rattle.genie_base.specs.Events.{is_whole, mark_of}
use Rattle.genie_base.specs.declared.event.Event.{Event}
use Rattle.genie_base.specs.declared.reply.Mark.TheVariants.{NoFault}
use Rattle.genie_base.specs.declared.reply.Reply.{Reply}
use Rattle.genie_demux.specs.declared.input.Input.{Input}
use Rattle.genie_frame.specs.FrameTable.{FrameTable}
use Rattle.genie_object.specs.Sound.{IsSized}
use Rattle.genie_store.specs.StoreView.{StoreView}
use Rattle.genie_model.specs.Ending.{without_transfer}
use Rattle.genie_model.specs.Refusing.{refuse}
use Rattle.genie_model.specs.Space.{tidy}
use Rattle.genie_model.specs.State.{State}
use Rattle.genie_model.specs.Step.{accept, marked}
use Rattle.genie_model.specs.Tables.{without}
use Rattle.genie_kernel.specs.declared.kernel.Kernel.{Kernel}
use Rattle.genie_kernel.specs.declared.transfer.Transfer.{Transfer}
use Rattle.genie_kernel.specs.Calls.{has_number}
use Rattle.genie_kernel.specs.Good.{IsGood}
use Rattle.genie_kernel.specs.Matching.{ArePosted}
use Rattle.genie_kernel.specs.Steps.{Steps, bytes_over}
use Rattle.genie_kernel.specs.View.{Bytes, state_of, outline, no_bytes}
use Rattle.genie_changes.specs.Ending.{IsGivenBack, LeavesOthers, ShowsOthers, without_call}
use Rattle.genie_changes.specs.Settled.{IsSettled}
use Rattle.genie_endings.specs.EndingLaws.{EndingLaws}
use Rattle.genie_endings.specs.Serving.{IsServed}
use Rattle.genie_endings.proofs.Phases.{IsIdle}

-- a good kernel's memory has the sizes of its configuration, as the store has
pub still_sized : (old new : Kernel) → IsGood old → IsGood new → new.config ≡ old.config → (v : StoreView) → IsSized old.memory v → IsSized new.memory v
still_sized old new g h same v sized = record {
  count = sized.count ∙ g.sized.slots ∙ ap (λ (c : Config). c.slots) (sym same) ∙ sym h.sized.slots;
  page = sized.page ∙ g.sized.page ∙ ap (λ (c : Config). c.page) (sym same) ∙ sym h.sized.page;
}

module _ (laws : EndingLaws) (k : Kernel) (frames : FrameTable) (n : ℕ) (t : Transfer) (posted : List Input) (g : IsGood k) (found : find (has_number n) k.transfers ≡ Some t) (back : IsGivenBack t k.memory.frames frames) (leaves : LeavesOthers n t k.transfers k.pools k.memory (record (k.memory) { frames = frames })) (idle : IsIdle t) (listed : ArePosted posted (without (has_number n) k.transfers)) where
  abbrev left : Kernel
  left = without_call k (record (k.memory) { frames = frames }) n posted

  pub left_settled : IsSettled left
  left_settled = laws.ends k (record (k.memory) { frames = frames }) n t posted k.devices k.pools (laws.settled k g) found idle.unqueued idle.unmoved (laws.loans k n t frames (laws.settled k g) back leaves) (laws.unbuffered k t (laws.settled k g) idle.unbuffered) listed

  pub left_state : (old new : Bytes) → ShowsOthers k n old new → state_of left new ≡ tidy (without_transfer (state_of k old) n)
  left_state old new shows = laws.state k (record (k.memory) { frames = frames }) n t posted old new g found idle.unqueued idle.unmoved shows

  -- where the event does nothing but that
  pub left_served : (e : Event) (reply : Reply) → IsTrue (is_whole e) → refuse (outline k) e ≡ None → mark_of reply ≡ NoFault → ((b : Bytes) → accept (state_of k b) e ≡ (tidy (without_transfer (state_of k b) n), reply)) → IsServed k e left reply
  left_served e reply whole h unfailed does =
      let steps : (old new : Bytes) → ShowsOthers k n old new → Steps (state_of k old) e (state_of left new) reply = λ old new shows. record {
        state = left_state old new shows ∙ sym (ap (λ (o : State × Reply). o.0) (ap (marked (state_of k old) e) unfailed ∙ does old));
        reply_is = sym (ap (λ (o : State × Reply). o.1) (ap (marked (state_of k old) e) unfailed ∙ does old));
      } in
      let good : IsGood left = laws.good left left_settled (laws.orderly (outline k) (outline left) e reply whole h (steps (no_bytes k.config.page) (no_bytes k.config.page) (laws.outlines k n)) g.orderly) in
      record {
        good = good;
        sized = still_sized k left g good refl;
        step = λ slots rests sents. steps (bytes_over k.memory slots rests sents) (bytes_over (record (k.memory) { frames = frames }) slots rests sents) (laws.shown k (record (k.memory) { frames = frames }) n t slots rests sents (laws.settled k g) leaves);
        kept = laws.kept k (record (k.memory) { frames = frames }) n t posted (laws.settled k g) found leaves;
        config = refl;
        numbers = refl;
        unfailed = unfailed;
        meters = back.loans.meters ∙ back.wires.only.meters;
        landed = back.loans.landed ∙ back.wires.only.landed;
      }
