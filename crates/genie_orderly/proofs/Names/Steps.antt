-- What transfers name is there after every step.
use Rattle.std.proofs.Common.{◌≡◌, ℕ, Bool, true, List, length, refl}
use Rattle.std.specs.Prelude.{Option, Some, None, ◌==◌, is_some}
use Rattle.std.proofs.lemmas.Bool.{and_parts}
use Rattle.genie_base.specs.Regions.{is_accessible}
use Rattle.genie_base.specs.Transfers.{class_of}
use Rattle.genie_base.specs.declared.event.Event.{Event}
use Rattle.genie_base.specs.declared.event.Event.TheVariants.{Spawn, Fork, Exit, Map, Alloc, Unmap, Protect, Read, Write, Output, Input, Send, Recv, Finish, Cancel, Pageout}
use Rattle.genie_base.specs.declared.region.Area.TheVariants.{App}
use Rattle.genie_base.specs.declared.region.RegionState.TheVariants.{Live}
use Rattle.genie_base.specs.declared.reply.Mark.{Mark}
use Rattle.genie_model.specs.State.{State, Region}
use Rattle.genie_model.specs.Tables.{entry}
use Rattle.genie_model.specs.Regions.{regions_at, place_in, reach_of}
use Rattle.genie_model.specs.Pending.{pending}
use Rattle.genie_model.specs.Space.{zeros, zeros_at_place, remove_found, region_from, starts_at, protect_found, stored}
use Rattle.genie_model.specs.Step.{perform, accept, with_budget, step}
use Rattle.genie_orderly.specs.Steps.{Stays}
use Rattle.genie_orderly.specs.Orderly.{RangesLie, HeldForOne, IsOrderly}
use Rattle.genie_model.specs.Lemmas.Lists.{find_has}
use Rattle.genie_orderly.specs.Lemmas.FoundRegions.{has_region}
use Rattle.genie_orderly.specs.Lemmas.NamedRanges.{orderly_stand, accessible_free, tidied_ranges, tidied_holds}
use Rattle.genie_orderly.proofs.Names.SpaceEvents.{Stands, put_stands, protect_stands, remove_stands, add_stands, fresh_free, spawn_stands, fork_stands}
use Rattle.genie_orderly.proofs.Names.Exits.{exit_stands}
use Rattle.genie_orderly.proofs.Names.Calls.{output_stands, input_stands}
use Rattle.genie_orderly.proofs.Names.DeviceSteps.{sent_stands, received_stands}
use Rattle.genie_orderly.proofs.Names.Ends.{finished_stands, cancelled_stands}
use Rattle.genie_orderly.specs.Lemmas.RegionNumbers.{few_numbers}
use Rattle.genie_model.specs.Lemmas.Steps.{event_so}
use Rattle.genie_orderly.specs.Lemmas.AcceptedEvents.{Allowed, allowed, budget_allowed}

alive_entry : {X : Type 0} (o : Option X) → is_some o ≡ true → (x : X) × (o ≡ Some x)
alive_entry None e = absurd (cc)
alive_entry (Some x) e = (x, refl)

remove_stands_found : (s : State) (p g : ℕ) (o : Option Region) → IsOrderly s → region_from s p g ≡ o → Stands s → Stands (remove_found s o)
remove_stands_found s p g None o e h = h
remove_stands_found s p g (Some r) o e h =
    let found = find_has (starts_at g) (regions_at s p) r e in
    let there = has_region s p r found.0 in
    remove_stands s s.transfers h o.numbers r there (accessible_free s s.transfers o.numbers h.each r there (and_parts (is_accessible r.state) (r.start == g) found.1).0)

protect_found_stands : (s : State) (o : Option Region) (writable : Bool) → Stands s → Stands (protect_found s o writable)
protect_found_stands s None writable h = h
protect_found_stands s (Some r) writable h = protect_stands s s.transfers h r.number writable

stored_stands : (s : State) (o : Option Region) (a : ℕ) (bytes : List ℕ) → Stands s → Stands (stored s o a bytes)
stored_stands s None a bytes h = h
stored_stands s (Some r) a bytes h = put_stands s s.transfers h r.number (place_in s r a) bytes

perform_stands : (s : State) (e : Event) → IsOrderly s → Allowed s e → Stands s → Stands (perform s e).0
perform_stands s (Spawn p) o may h = spawn_stands s p may h
perform_stands s (Fork p q) o may h = fork_stands s p q o may h
perform_stands s (Exit p) o may h = exit_stands s p o.numbers h
perform_stands s (Map p g n) o may h = add_stands s s.transfers h p (zeros s App Live g n) (fresh_free s (few_numbers s o))
perform_stands s (Alloc p n) o may h = add_stands s s.transfers h p (zeros_at_place s Live p n) (fresh_free s (few_numbers s o))
perform_stands s (Unmap p g) o may h = remove_stands_found s p g (region_from s p g) o refl h
perform_stands s (Protect p g writable) o may h = protect_found_stands s (region_from s p g) writable h
perform_stands s (Read p a n) o may h = h
perform_stands s (Write p a bytes) o may h = stored_stands s (reach_of s p a (length bytes)) a bytes h
perform_stands s (Output p sem d port flow a n) o may h = output_stands s p (class_of sem) (record { device = d; port = port; flow = flow }) a n (reach_of s p a n) o refl may h
perform_stands s (Input p sem d port flow a n) o may h = let x = alive_entry (entry s.processes p) may.0 in input_stands s p (record { device = d; port = port; flow = flow }) n o x.0 x.1 h (class_of sem) a may.1
perform_stands s (Send d n) o may h = sent_stands s d n h
perform_stands s (Recv d n) o may h = received_stands s d n h
perform_stands s (Finish k) o may h = finished_stands s k (pending s k) refl h
perform_stands s (Cancel k) o may h = cancelled_stands s k (pending s k) o.numbers refl h
perform_stands s (Pageout n) o may h = h

-- both laws of what transfers name
record NamesWell (s : State) : Type 0 where
  ranges : RangesLie s
  holds : HeldForOne s

same : (s : State) → IsOrderly s → NamesWell s
same s o = record { ranges = o.ranges; holds = o.holds }

accept_well : (s : State) (e : Event) → IsOrderly s → Allowed s e → NamesWell (accept s e).0
accept_well s e o may =
    let t : State = (perform s e).0 in
    let h = perform_stands s e o may (orderly_stand s o) in
    record { ranges = tidied_ranges t h; holds = tidied_holds t h }

step_well : (s : State) (e : Event) (m : Mark) → IsOrderly s → NamesWell (step s e m).0
step_well s e m o = event_so NamesWell s (same s o) e (λ none. accept_well s e o (allowed s e none)) (λ none k. accept_well s (with_budget e k) o (budget_allowed s e k (allowed s e none))) m

pub ranges_lie : Stays RangesLie
ranges_lie s e m whole o = (step_well s e m o).ranges

pub held_for_one : Stays HeldForOne
held_for_one s e m whole o = (step_well s e m o).holds
