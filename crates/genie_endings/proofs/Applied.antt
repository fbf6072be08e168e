-- A posted input of an application's buffer that is taken back.
use Rattle.std.proofs.Common.{◌≡◌, ℕ, true, refl, ap, subst, sym, ◌∙◌}
use Rattle.std.specs.Prelude.{Option, Some, None, IfSome, IsTrue, find}
use Rattle.genie_base.specs.Transfers.{class_of}
use Rattle.genie_base.specs.declared.event.Event.TheVariants.{Cancel}
use Rattle.genie_base.specs.declared.reply.Reply.TheVariants as reply
use Rattle.genie_base.specs.declared.semantics.Class.{Class}
use Rattle.genie_base.specs.declared.semantics.Class.TheVariants.{Copy, Share, Move, WeakMove}
use Rattle.genie_demux.specs.Posted as demux
use Rattle.genie_model.specs.Ending.{cancel_found, region_of, without_transfer}
use Rattle.genie_model.specs.Outputs.{give_up}
use Rattle.genie_model.specs.Refusing.{refuse}
use Rattle.genie_model.specs.Space.{tidy}
use Rattle.genie_model.specs.State as flat
use Rattle.genie_model.specs.Step.{accept, tidied}
use Rattle.genie_kernel.specs.declared.kernel.Kernel.{Kernel}
use Rattle.genie_kernel.specs.declared.transfer.Transfer.{Transfer}
use Rattle.genie_kernel.specs.Calls.{has_number}
use Rattle.genie_kernel.specs.Good.{IsGood}
use Rattle.genie_kernel.specs.View.{Bytes, state_of, outline}
use Rattle.genie_endings.specs.EndingLaws.{EndingLaws}
use Rattle.genie_endings.specs.Ends.{EndsCall, is_app}
use Rattle.genie_endings.specs.Serving.{IsServed}
use Rattle.genie_endings.proofs.Phases.{pending_seen, posted_idle, seen_as}
use Rattle.genie_endings.proofs.Served.{left_served}

given_up : (s : flat.State) (class : Class) (r : Option flat.Region) → is_app class ≡ true → give_up s class r ≡ s
given_up s class None e = refl
given_up s Copy (Some r) e = refl
given_up s Share (Some r) e = refl
given_up s Move (Some r) e = absurd (cc)
given_up s WeakMove (Some r) e = absurd (cc)

-- the event takes the input out, and nothing else
cancels : (k : Kernel) (b : Bytes) (n : ℕ) (t : Transfer) → find (has_number n) k.transfers ≡ Some t → is_app (class_of t.sem) ≡ true → accept (state_of k b) (Cancel n) ≡ (tidy (without_transfer (state_of k b) n), reply.Okay)
cancels k b n t found app =
    ap (λ o. tidied (cancel_found (state_of k b) n o)) (pending_seen k b n (Some t) found) ∙ ap (λ s. tidied (s, reply.Okay)) (given_up (without_transfer (state_of k b) n) (class_of t.sem) (region_of (state_of k b) (seen_as k b t)) app)

true_is : (o : Option Transfer) (t : Transfer) → o ≡ Some t → IfSome o (λ (u : Transfer). IsTrue (is_app (class_of u.sem))) → is_app (class_of t.sem) ≡ true
true_is o t e h = subst (λ p. IfSome p (λ (u : Transfer). IsTrue (is_app (class_of u.sem)))) e h

pub app_served : (laws : EndingLaws) (k left : Kernel) (n : ℕ) (t : Transfer) → IsGood k → refuse (outline k) (Cancel n) ≡ None → IfSome (find (has_number n) k.transfers) (λ (u : Transfer). IsTrue (is_app (class_of u.sem))) → EndsCall n k left t → IsServed k (Cancel n) (record left { posted = demux.without n left.posted }) reply.Okay
app_served laws k left n t g h app ends =
    subst (λ (j : Kernel). IsServed k (Cancel n) (record j { posted = demux.without n j.posted }) reply.Okay) (sym ends.only)
    (left_served laws k left.memory.frames n t (demux.without n k.posted) g ends.found ends.back ends.leaves (posted_idle k n t g ends.found h) (laws.posted n k.posted k.transfers (laws.settled k g).rising g.posted) (Cancel n) reply.Okay refl h refl (λ b. cancels k b n t ends.found (true_is (find (has_number n) k.transfers) t ends.found app)))
