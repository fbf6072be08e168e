-- A posted weak move input that is taken back.
use Rattle.std.proofs.Common.{◌≡◌, ℕ, ◌<◌, true, false, List, [], ◌∷◌, ◌++◌, refl, ap, subst, sym, ◌∙◌, length, get_or, find}
use Rattle.std.specs.Prelude.{Option, Some, None, unwrap_or}
use Rattle.std.specs.List.{list_any}
use Rattle.genie_base.specs.declared.event.Event.TheVariants.{Cancel}
use Rattle.genie_base.specs.declared.region.RegionState.TheVariants.{In, Out}
use Rattle.genie_base.specs.declared.reply.Reply.{Reply}
use Rattle.genie_base.specs.declared.reply.Reply.TheVariants as reply
use Rattle.genie_base.specs.declared.semantics.Class.TheVariants.{WeakMove}
use Rattle.genie_hiding.specs.Queues.{is_in}
use Rattle.genie_region.specs.declared.region.Region.{Region}
use Rattle.genie_space.specs.Spaces as spaces
use Rattle.genie_model.specs.Lemmas.Lists.{find_has, has_any}
use Rattle.genie_model.specs.Outputs.{moved_out}
use Rattle.genie_model.specs.Refusing.{refuse}
use Rattle.genie_model.specs.State as flat
use Rattle.genie_room.specs.Places.{QueuesSuffice}
use Rattle.genie_kernel.specs.declared.kernel.Kernel.{Kernel}
use Rattle.genie_kernel.specs.declared.transfer.Transfer.{Transfer}
use Rattle.genie_kernel.specs.Calls.{has_number}
use Rattle.genie_kernel.specs.Good.{IsGood}
use Rattle.genie_kernel.specs.Kept.{Kept}
use Rattle.genie_kernel.specs.Regions.{has_id}
use Rattle.genie_kernel.specs.Steps.{Steps, bytes_over}
use Rattle.genie_kernel.specs.View.{Bytes, state_of, outline, no_bytes}
use Rattle.genie_changes.specs.Ending.{ShowsOthers}
use Rattle.genie_changes.specs.Turned.{turned}
use Rattle.genie_endings.specs.EndingLaws.{EndingLaws}
use Rattle.genie_endings.specs.Ends.{EndsCall}
use Rattle.genie_endings.specs.Named.{named}
use Rattle.genie_endings.specs.Serving.{IsServed}
use Rattle.genie_endings.specs.declared.region.Placed.{Placed}
use Rattle.genie_endings.proofs.Filled.{IsNamed, room, unlisted}
use Rattle.genie_endings.proofs.Served.{still_sized}
use Rattle.genie_endings.proofs.GivenUp.{IsOf, cancelled, gives_up, gone_state, is, kept, left, mid_is, settled, suits, waits}

module _ (laws : EndingLaws) (k mid : Kernel) (n : ℕ) (t : Transfer) (g : IsGood k) (h : refuse (outline k) (Cancel n) ≡ None) (weak : IsOf WeakMove (find (has_number n) k.transfers)) (ends : EndsCall n k mid t) (x : Placed) (named_some : named (cancelled mid n).spaces t.owner t.region ≡ Some x) where
  abbrev p : ℕ
  p = x.pid

  abbrev r : Region
  r = x.region

  named_as : IsNamed k.spaces.processes t.owner t.region p r
  named_as = is laws k mid n t WeakMove In refl g h weak ends x named_some

  same : cancelled mid n ≡ left laws k mid n t WeakMove In refl g h weak ends
  same = mid_is laws k mid n t WeakMove In refl g h weak ends

  pub may_room : QueuesSuffice → length (get_or (cancelled mid n).queues p []) < 32
  may_room suffice = subst (λ (j : Kernel). length (get_or j.queues p []) < 32) (sym same) (room k n t In g ends.found (waits laws k mid n t WeakMove In refl g h weak ends) (suits laws k mid n t WeakMove In refl g h weak ends) p r named_as refl suffice)

  pub may_list : is_in r.id.0 (get_or (cancelled mid n).queues p []) ≡ false
  may_list = subst (λ (j : Kernel). is_in r.id.0 (get_or j.queues p []) ≡ false) (sym same) (unlisted k n t In g ends.found (waits laws k mid n t WeakMove In refl g h weak ends) (suits laws k mid n t WeakMove In refl g h weak ends) p r named_as refl)

  abbrev without_it : Kernel
  without_it = left laws k mid n t WeakMove In refl g h weak ends

  abbrev after : Kernel
  after = turned without_it p r.id.0 Out named_as.regions (get_or k.queues p [] ++ r.id.0 ∷ [])

  has : list_any (has_id r.id.0) named_as.regions ≡ true
  has = let there = find_has (has_id r.id.0) named_as.regions r named_as.found in has_any (has_id r.id.0) r named_as.regions there.0 there.1

  steps : (old new : Bytes) → ShowsOthers k n old new → Steps (state_of k old) (Cancel n) (state_of after new) reply.Okay
  steps old new shows =
      let does = gives_up laws k mid n t WeakMove In refl g h weak ends x named_some old in
      record {
        state = laws.moved without_it p r.id.0 named_as.regions new (settled laws k mid n t WeakMove In refl g h weak ends) named_as.there has ∙ ap (λ s. moved_out s r.id.0) (gone_state laws k mid n t WeakMove In refl g h weak ends old new shows) ∙ sym (ap (λ (o : flat.State × Reply). o.0) does);
        reply_is = sym (ap (λ (o : flat.State × Reply). o.1) does);
      }

  served : IsServed k (Cancel n) after reply.Okay
  served =
      let keeps : Kept k without_it = kept laws k mid n t WeakMove In refl g h weak ends in
      let whole = settled laws k mid n t WeakMove In refl g h weak ends in
      let good : IsGood after = laws.good after (laws.turns without_it p r.id.0 Out named_as.regions (get_or k.queues p [] ++ r.id.0 ∷ []) whole named_as.there (laws.lists without_it p r.id.0 named_as.regions whole named_as.there has)) (laws.orderly (outline k) (outline after) (Cancel n) reply.Okay refl h (steps (no_bytes k.config.page) (no_bytes k.config.page) (laws.outlines k n)) g.orderly) in
      record {
        good = good;
        sized = still_sized k after g good refl;
        step = λ slots rests sents. steps (bytes_over k.memory slots rests sents) (bytes_over (record (k.memory) { frames = mid.memory.frames }) slots rests sents) (laws.shown k (record (k.memory) { frames = mid.memory.frames }) n t slots rests sents (laws.settled k g) ends.leaves);
        kept = record { lent = λ j f a b y. keeps.lent j f a b (record { was = y.was; is = y.is }); pooled = keeps.pooled; fresh = λ j f a b y. keeps.fresh j f a b (record { was = y.was; is = y.is }) };
        config = refl;
        numbers = refl;
        unfailed = refl;
        meters = ends.back.loans.meters ∙ ends.back.wires.only.meters;
        landed = ends.back.loans.landed ∙ ends.back.wires.only.landed;
      }

  -- what the event's contract says
  pub moved_served : (new : Kernel) → new ≡ turned (cancelled mid n) p r.id.0 Out (spaces.regions_of p (cancelled mid n).spaces) (get_or (cancelled mid n).queues p [] ++ r.id.0 ∷ []) → IsServed k (Cancel n) new reply.Okay
  moved_served new e =
      let is_after : new ≡ after = e ∙ ap (λ (j : Kernel). turned j p r.id.0 Out (spaces.regions_of p j.spaces) (get_or j.queues p [] ++ r.id.0 ∷ [])) same ∙ ap (λ l. turned without_it p r.id.0 Out l (get_or k.queues p [] ++ r.id.0 ∷ [])) (ap (λ (o : Option (List Region)). unwrap_or o []) named_as.there) in
      subst (λ (j : Kernel). IsServed k (Cancel n) j reply.Okay) (sym is_after) served
