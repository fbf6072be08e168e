-- The end of a sent output.
use Rattle.std.proofs.Common.{◌≡◌, ℕ, false, refl, ap, subst, sym, ◌∙◌}
use Rattle.std.specs.Prelude.{Option, Some, None, find}
use Rattle.genie_base.specs.Events.{mark_of}
use Rattle.genie_base.specs.declared.event.Event.TheVariants.{Finish}
use Rattle.genie_base.specs.declared.reply.Mark.TheVariants.{NoFault}
use Rattle.genie_base.specs.declared.reply.Reply.{Reply}
use Rattle.genie_base.specs.declared.reply.Reply.TheVariants as reply
use Rattle.genie_base.specs.declared.semantics.Direction.{Direction}
use Rattle.genie_base.specs.declared.semantics.Direction.TheVariants.{Outward, Inward}
use Rattle.genie_model.specs.Ending.{finish_found, finish_for, finish_owned, without_transfer}
use Rattle.genie_model.specs.Pending.{is_inward}
use Rattle.genie_model.specs.Refusing.{refuse}
use Rattle.genie_model.specs.Space.{tidy}
use Rattle.genie_model.specs.Step.{accept, tidied}
use Rattle.genie_kernel.specs.declared.kernel.Kernel.{Kernel}
use Rattle.genie_kernel.specs.declared.transfer.Transfer.{Transfer}
use Rattle.genie_kernel.specs.Calls.{has_number}
use Rattle.genie_kernel.specs.Good.{IsGood}
use Rattle.genie_kernel.specs.View.{Bytes, state_of, outline}
use Rattle.genie_endings.specs.EndingLaws.{EndingLaws}
use Rattle.genie_endings.specs.Ends.{EndsCall, IsOutput}
use Rattle.genie_endings.specs.Serving.{IsServed}
use Rattle.genie_endings.proofs.Phases.{pending_seen, seen_as, sent_idle}
use Rattle.genie_endings.proofs.Served.{left_served}

-- what is answered: how many bytes it had, or that its process is gone
abbrev pub sent_reply : Option ℕ → ℕ → Reply
sent_reply None n = reply.Gone
sent_reply (Some p) n = reply.Output n

is_outward : (d : Direction) → is_inward d ≡ false → d ≡ Outward
is_outward Outward e = refl
is_outward Inward e = absurd (cc)

-- the event takes the output out, and nothing else
finishes : (k : Kernel) (b : Bytes) (n : ℕ) (t : Transfer) → find (has_number n) k.transfers ≡ Some t → is_inward t.dir ≡ false → accept (state_of k b) (Finish n) ≡ (tidy (without_transfer (state_of k b) n), sent_reply t.owner t.len)
finishes k b n t found out =
    ap (λ o. tidied (finish_found (state_of k b) n o)) (pending_seen k b n (Some t) found) ∙ by_owner t.owner where
      by_owner : (o : Option ℕ) → tidied (finish_for (without_transfer (state_of k b) n) (seen_as k b t) o) ≡ (tidy (without_transfer (state_of k b) n), sent_reply o t.len)
      by_owner None = refl
      by_owner (Some p) = ap (λ (d : Direction). tidied (finish_owned (without_transfer (state_of k b) n) p (seen_as k b t) d)) (is_outward t.dir out)

pub output_served : (laws : EndingLaws) (k new : Kernel) (n : ℕ) (t : Transfer) → IsGood k → refuse (outline k) (Finish n) ≡ None → IsOutput (find (has_number n) k.transfers) → EndsCall n k new t → IsServed k (Finish n) new (sent_reply t.owner t.len)
output_served laws k new n t g h out ends =
    let outward : is_inward t.dir ≡ false = subst IsOutput ends.found out in
    let idle = sent_idle k n t g ends.found h outward in
    subst (λ (j : Kernel). IsServed k (Finish n) j (sent_reply t.owner t.len)) (sym ends.only)
    (left_served laws k new.memory.frames n t k.posted g ends.found ends.back ends.leaves idle.0 (laws.beside (has_number n) t k.posted k.transfers ends.found idle.1 g.posted) (Finish n) (sent_reply t.owner t.len) refl h (unfailed t.owner) (λ b. finishes k b n t ends.found outward)) where
      unfailed : (o : Option ℕ) → mark_of (sent_reply o t.len) ≡ NoFault
      unfailed None = refl
      unfailed (Some p) = refl
