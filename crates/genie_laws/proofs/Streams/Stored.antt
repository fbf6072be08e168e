-- What a `done` stores is the front of a record that was taken.
use Rattle.std.proofs.Common.{◌≡◌, ℕ, Bool, true, false, List, refl, sym, ap, ◌∙◌, true≢false}
use Rattle.std.specs.Prelude.{Option, Some, None}
use Rattle.std.specs.List.{Any}
use Rattle.genie_base.specs.declared.event.Event.{Event}
use Rattle.genie_base.specs.declared.event.Event.TheVariants.{Finish}
use Rattle.genie_base.specs.declared.refusal.Refusal.{Refusal}
use Rattle.genie_base.specs.declared.reply.Mark.{Mark}
use Rattle.genie_model.specs.declared.phase.Phase.{Phase}
use Rattle.genie_model.specs.declared.phase.Phase.TheVariants.{Queued, Posted, Moving, Ready}
use Rattle.genie_model.specs.State.{State, Transfer}
use Rattle.genie_model.specs.Pending.{is_ready, is_early_at, is_numbered}
use Rattle.genie_model.specs.Refusing.{refuse, is_finished}
use Rattle.genie_model.specs.Step.{answer}
use Rattle.genie_model.specs.Lemmas.Lists.{all_has, find_has}
use Rattle.genie_orderly.specs.Lemmas.AcceptedEvents.{allowed}
use Rattle.genie_orderly.specs.Steps.{is_refused}
use Rattle.genie_laws.specs.Streams.{Taken, HasGot, HasBytes, IsServed, DonesStoreTaken}
use Rattle.genie_laws.proofs.Ends.Payloads.{done_stores_records}

accepts : (s : State) (e : Event) (m : Mark) (r : Option Refusal) → refuse s e ≡ r → is_refused (answer s e m r).1 ≡ false → refuse s e ≡ None
accepts s e m None is h = is
accepts s e m (Some w) is h = absurd (true≢false h)

ready_has : (early : Bool) (taken : List Taken) (header payload : List ℕ) (t : Transfer) (phase : Phase) → is_ready phase ≡ true → HasBytes early taken header payload t phase → Any (HasGot early t) taken
ready_has early taken header payload t Queued e h = absurd (true≢false (sym e))
ready_has early taken header payload t Posted e h = absurd (true≢false (sym e))
ready_has early taken header payload t Moving e h = absurd (true≢false (sym e))
ready_has early taken header payload t Ready e h = h

pub dones_store_taken : DonesStoreTaken
dones_store_taken s o stream taken k p m t region has is inward owned e fine =
    let d : ℕ = t.device in
    let none = accepts s (Finish k) m (refuse s (Finish k)) refl fine in
    let ready : is_ready t.phase ≡ true = ap is_finished (sym is) ∙ allowed s (Finish k) none in
    let served = all_has (IsServed (is_early_at s d) taken has.header has.payload d) s.transfers has.inputs t (find_has (is_numbered k) s.transfers t is).0 in
    let got = ready_has (is_early_at s d) taken has.header has.payload t t.phase ready (served inward refl) in
    (got.0, got.1, got.2, got.3, (got.4, done_stores_records s k p m t region got.1 o is inward owned got.4 e fine))
