-- The state with an output more is the flat machine's.
use Rattle.std.proofs.Common.{◌≡◌, ℕ, Bool, true, false, not, List, [], refl, sym, ap, ◌∙◌}
use Rattle.std.specs.Prelude.{Option, Some, None, ◌&&◌, if◌then◌else◌}
use Rattle.std.specs.Option.{option_map}
use Rattle.genie_base.specs.Bytes.{part}
use Rattle.genie_base.specs.Transfers.{class_of, is_strong, is_system}
use Rattle.genie_base.specs.declared.numbers.RegionId.{RegionId}
use Rattle.genie_base.specs.declared.reply.Reply.TheVariants as reply
use Rattle.genie_base.specs.declared.semantics.Class.{Class}
use Rattle.genie_base.specs.declared.semantics.Class.TheVariants.{Copy, Share, Move, WeakMove}
use Rattle.genie_object.specs.declared.memory.Memory.{Memory}
use Rattle.genie_plan.specs.declared.plan.OutPlan.{OutPlan}
use Rattle.genie_region.specs.declared.region.Region.{Region}
use Rattle.genie_model.specs.Outputs.{give_up, output_of}
use Rattle.genie_model.specs.Pending.{add_transfer}
use Rattle.genie_model.specs.Regions as model
use Rattle.genie_model.specs.Space.{tidy}
use Rattle.genie_model.specs.State as flat
use Rattle.genie_model.specs.Lemmas.Lists.{has_any}
use Rattle.genie_kernel.specs.declared.kernel.Kernel.{Kernel}
use Rattle.genie_kernel.specs.declared.transfer.Transfer.{Transfer}
use Rattle.genie_kernel.specs.Calls.{addr_of, is_named, names_weakly, region_number}
use Rattle.genie_kernel.specs.Good.{IsGood}
use Rattle.genie_kernel.specs.Orphans.{is_owned, lent_bytes}
use Rattle.genie_kernel.specs.Regions.{has_id, object_bytes, owned_regions, region_view}
use Rattle.genie_kernel.specs.Steps.{Steps}
use Rattle.genie_kernel.specs.View.{Bytes, state_of}
use Rattle.genie_kernel.specs.Lemmas.Tidying.{tidy_view}
use Rattle.genie_changes.specs.States.{begun}
use Rattle.genie_outputs.specs.declared.call.Call.{Call}
use Rattle.genie_outputs.specs.Calls.{Reaches, event_of, place_in, transfer_of, with_output}
use Rattle.genie_outputs.specs.OutputLaws.{OutputLaws}
use Rattle.genie_outputs.proofs.Loaned.{new_output, no_address}
use Rattle.genie_outputs.proofs.Reached.{reach_view, reached_owned}
use Rattle.genie_outputs.proofs.Shown.{Shows}

-- a buffer of the application's is not given up
pub stays : (s : flat.State) (class : Class) (r : flat.Region) → is_system class ≡ false → give_up s class (Some r) ≡ s
stays s Copy r e = refl
stays s Share r e = refl
stays s Move r e = absurd (cc)
stays s WeakMove r e = absurd (cc)

module _ (k : Kernel) (c : Call) (r : Region) (plan : OutPlan) where
  abbrev t : Transfer
  t = transfer_of k c r plan

  region_is : region_number t ≡ (if is_strong (class_of c.sem) then None else Some r.id.0)
  region_is = elim (is_strong (class_of c.sem)) as (λ b. option_map (λ (n : RegionId). n.0) (if b then None else Some r.id) ≡ (if b then None else Some r.id.0)) [ true ↦ refl | false ↦ refl ]

  address_is : addr_of t ≡ None
  address_is = ap (λ (b : Bool). if b then Some 0 else None) (no_address (class_of c.sem))

  -- it names its region or none
  pub named : Reaches k c r → (n : ℕ) → names_weakly n t ≡ true → is_owned (owned_regions k.spaces.processes) n ≡ true
  named reached n = elim (is_strong (class_of c.sem)) as (λ b. (not b && is_named (if b then None else Some r.id) n) ≡ true → is_owned (owned_regions k.spaces.processes) n ≡ true) [
    | true ↦ λ e. absurd (cc)
    | false ↦ λ e. has_any (has_id n) r (owned_regions k.spaces.processes) (reached_owned k c r reached) e
  ]

  abbrev made : flat.State → Option flat.Region → flat.Transfer
  made s o = output_of s c.pid (class_of c.sem) (record { device = c.dev; port = c.port; flow = c.flow }) c.addr c.len o

  module _ (b new : Bytes) (shows : Shows k c r plan b.seen new.seen) where
    abbrev view_of : flat.Region
    view_of = region_view b.seen.entry_bytes r

    abbrev sent : List ℕ
    sent = part (place_in k.config.page c r) c.len (object_bytes b.seen.entry_bytes r.object.0 r.pages)

    payload_is : (strong : Bool) → (strong ≡ true → lent_bytes new.seen.kept_bytes t ≡ sent) → (if strong then lent_bytes new.seen.kept_bytes t else []) ≡ (if strong then sent else [])
    payload_is true e = e refl
    payload_is false e = refl

    begun_is : begun new.seen.kept_bytes t ≡ made (state_of k b) (Some view_of)
    begun_is =
        let payload = payload_is (is_strong (class_of c.sem)) shows.payload in
        λ i. record (made (state_of k b) (Some view_of)) { addr = address_is i; region = region_is i; payload = payload i }

    -- the state with the transfer
    pub state_with : OutputLaws → IsGood k → Reaches k c r → (m : Memory) → new.rests ≡ b.rests → new.sents ≡ b.sents → state_of (with_output k m c r plan) new ≡ add_transfer (state_of k b) (made (state_of k b) (Some view_of))
    state_with laws g reached m rests sents = laws.added k m t k.posted b new (laws.waits k t g (new_output k c r plan)) (named reached) shows.entries rests sents shows.same ∙ ap (add_transfer (state_of k b)) begun_is

-- a state in which the transfer waits, and the buffer is given up, is what the event steps to
pub steps_to : (k after : Kernel) (c : Call) (r : Region) (b new : Bytes) → Reaches k c r → state_of after new ≡ give_up (add_transfer (state_of k b) (output_of (state_of k b) c.pid (class_of c.sem) (record { device = c.dev; port = c.port; flow = c.flow }) c.addr c.len (Some (region_view b.seen.entry_bytes r)))) (class_of c.sem) (Some (region_view b.seen.entry_bytes r)) → Steps (state_of k b) (event_of c) (state_of after new) (reply.Id k.next)
steps_to k after c r b new reached is =
    let s : flat.State = state_of k b in
    let found : model.reach_of s c.pid c.addr c.len ≡ Some (region_view b.seen.entry_bytes r) = reach_view k b c.pid c.addr c.len ∙ ap (option_map (region_view b.seen.entry_bytes)) reached in
    record {
      state = sym (tidy_view after new) ∙ ap tidy (is ∙ sym (ap (λ (o : Option flat.Region). give_up (add_transfer s (output_of s c.pid (class_of c.sem) (record { device = c.dev; port = c.port; flow = c.flow }) c.addr c.len o)) (class_of c.sem) o) found));
      reply_is = refl;
    }

-- so is one that was tidied
pub steps_tidied : (k after : Kernel) (c : Call) (r : Region) (b new : Bytes) → Reaches k c r → state_of after new ≡ tidy (give_up (add_transfer (state_of k b) (output_of (state_of k b) c.pid (class_of c.sem) (record { device = c.dev; port = c.port; flow = c.flow }) c.addr c.len (Some (region_view b.seen.entry_bytes r)))) (class_of c.sem) (Some (region_view b.seen.entry_bytes r))) → Steps (state_of k b) (event_of c) (state_of after new) (reply.Id k.next)
steps_tidied k after c r b new reached is =
    let s : flat.State = state_of k b in
    let found : model.reach_of s c.pid c.addr c.len ≡ Some (region_view b.seen.entry_bytes r) = reach_view k b c.pid c.addr c.len ∙ ap (option_map (region_view b.seen.entry_bytes)) reached in
    record {
      state = is ∙ ap tidy (sym (ap (λ (o : Option flat.Region). give_up (add_transfer s (output_of s c.pid (class_of c.sem) (record { device = c.dev; port = c.port; flow = c.flow }) c.addr c.len o)) (class_of c.sem) o) found));
      reply_is = refl;
    }
