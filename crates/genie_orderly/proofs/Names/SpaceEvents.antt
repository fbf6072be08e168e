-- What transfers name stays there in the events on address spaces.
use Rattle.std.proofs.Common.{◌≡◌, ℕ, ◌+◌, ◌<◌, ◌≤◌, Bool, false, ◌==◌, List, [], ◌∷◌, ◌++◌, length, map, refl, ap, arith}
use Rattle.std.specs.Prelude.{Some, None}
use Rattle.std.specs.List.{list_any}
use Rattle.std.proofs.lemmas.Bool.{cond_both, or_parts}
use Rattle.genie_base.specs.declared.region.RegionState.TheVariants.{Out, In}
use Rattle.genie_base.specs.declared.semantics.Class.{Class}
use Rattle.genie_base.specs.declared.semantics.Class.TheVariants.{Move, WeakMove}
use Rattle.genie_model.specs.State.{State, Region, Process, Transfer}
use Rattle.genie_model.specs.Tables.{entry}
use Rattle.genie_model.specs.Regions.{regions_at, is_region, has_number, fresh, changed, changed_in, change_region, with_bytes, with_state, with_mode, put}
use Rattle.genie_model.specs.Space.{add_region, remove, accessible, copy_of, add_copies, spawned, fork}
use Rattle.genie_model.specs.Outputs.{moved_out_of, moved_out, give_up}
use Rattle.genie_model.specs.Inputs.{moved_in_of, moved_in}
use Rattle.genie_orderly.specs.Orderly.{moves_into, numbers, NumbersDiffer, IsOrderly}
use Rattle.genie_model.specs.Lemmas.Lists.{Has}
use Rattle.genie_orderly.specs.Lemmas.FoundRegions.{all_of, differ, no_orphan, found_at}
use Rattle.genie_orderly.specs.Lemmas.NamedRanges.{Stand, stand_stays, stand_beside}
use Rattle.genie_orderly.specs.Lemmas.ChangedRegions.{InPlace, in_place_by, place_keeps_lies, place_keeps_held, place_keeps_others, put_in_place, remove_keeps_lies, remove_keeps_held}
use Rattle.genie_orderly.specs.Lemmas.AddedRegions.{IsFree, unused_free, add_keeps_lies, add_keeps_held, numbers_few, spawned_all, spawn_keeps_lies, spawn_keeps_held}
use Rattle.genie_orderly.specs.Lemmas.RegionNumbers.{fresh_unused, few_numbers_beside}
use Rattle.genie_orderly.proofs.Regions.Numbers.{added_length}
use Rattle.genie_orderly.proofs.Regions.Copied.{accessible_few}
use Rattle.genie_orderly.specs.Lemmas.BufferRegions.{in_place_state}

-- what all transfers of the state name is there
abbrev pub Stands : State → Type 0
Stands s = Stand s s.transfers

-- regions change in place
module _ (s : State) (transfers : List Transfer) (h : Stand s transfers) where
  pub put_stands : (k x : ℕ) (new : List ℕ) → Stand (put s k x new) transfers
  put_stands k x new =
      let place = put_in_place s k x new in
      stand_stays s (put s k x new) transfers (place_keeps_lies s (put s k x new) k (with_bytes x new) place) (place_keeps_held s (put s k x new) k (with_bytes x new) place (λ r. refl)) h

  pub protect_stands : (k : ℕ) (writable : Bool) → Stand (change_region s k (with_mode writable)) transfers
  protect_stands k writable =
      let t : State = change_region s k (with_mode writable) in
      let place : InPlace s t k (with_mode writable) = in_place_by s t k (with_mode writable) (changed_in k (with_mode writable)) refl (λ p. refl) (λ r. refl) (λ r. refl) (λ u j l. l) in
      stand_stays s t transfers (place_keeps_lies s t k (with_mode writable) place) (place_keeps_held s t k (with_mode writable) place (λ r. refl)) h

  -- also their state, where no move input names the region
  pub state_stands : (t : State) (k : ℕ) (f : Region → Region) → InPlace s t k f → list_any (moves_into k) transfers ≡ false → Stand t transfers
  state_stands t k f place none = stand_beside s t transfers k (place_keeps_lies s t k f place) (place_keeps_others s t k f place) none h

  pub remove_stands : NumbersDiffer s → (r : Region) → Has r (all_of s.processes) → list_any (moves_into r.number) transfers ≡ false → Stand (remove s r) transfers
  remove_stands differs r there none = stand_beside s (remove s r) transfers r.number
      (remove_keeps_lies s r (found_at s differs r there r.number refl) (no_orphan s.orphans (all_of s.processes) (differ s differs) r there))
      (remove_keeps_held s r) none h

  pub add_stands : (p : ℕ) (r : Region) → IsFree s r.number → Stand (add_region s p r) transfers
  add_stands p r free = stand_stays s (add_region s p r) transfers (add_keeps_lies s p r free) (add_keeps_held s p r free) h

none_changed : (k : ℕ) (f : Region → Region) (rs : List Region) → list_any (is_region k) rs ≡ false → rs ≡ map (changed k f) rs
none_changed k f [] e = refl
none_changed k f (r ∷ rs) e =
    let both = or_parts (is_region k r) (list_any (is_region k) rs) e in
    let first : (r.number == k) ≡ false = both.0 in
    rw first (ap (λ l. r ∷ l) (none_changed k f rs both.1))

pub moved_out_regions : (k : ℕ) (p : Process) → (moved_out_of k p).regions ≡ map (changed k (with_state Out)) p.regions
moved_out_regions k p = cond_both (has_number k (Some p)) (record { queue = p.queue ++ k ∷ []; regions = map (changed k (with_state Out)) p.regions }) p (λ (q : Process). q.regions ≡ map (changed k (with_state Out)) p.regions)
    (λ _. refl) (none_changed k (with_state Out) p.regions)

pub moved_out_place : (s : State) (k : ℕ) → InPlace s (moved_out s k) k (with_state Out)
moved_out_place s k = in_place_state s (moved_out s k) k Out (moved_out_of k) refl refl (moved_out_regions k)

pub moved_in_place : (s : State) (k : ℕ) → InPlace s (moved_in s k) k (with_state In)
moved_in_place s k = in_place_state s (moved_in s k) k In (moved_in_of k) refl refl (λ p. refl)

-- a region that no move input names is given up
pub give_up_stands : (s : State) → Stands s → NumbersDiffer s → (class : Class) (r : Region) → Has r (all_of s.processes) → list_any (moves_into r.number) s.transfers ≡ false → Stands (give_up s class (Some r))
give_up_stands s h differs Move r there none = remove_stands s s.transfers h differs r there none
give_up_stands s h differs WeakMove r there none = state_stands s s.transfers h (moved_out s r.number) r.number (with_state Out) (moved_out_place s r.number) none
give_up_stands s h differs class r there none = h

-- the numbers that are given to new regions are free
pub fresh_free : (s : State) → length (numbers s) ≤ 576 → IsFree s (fresh s)
fresh_free s few = unused_free s (fresh s) (fresh_unused s few)

pub spawn_stands : (s : State) (p : ℕ) → entry s.processes p ≡ None → Stands s → Stands (spawned s p)
spawn_stands s p none h = stand_stays s (spawned s p) s.transfers (spawn_keeps_lies s p none) (spawn_keeps_held s p none) h

copies_stand : (s : State) (q : ℕ) (regions : List Region) → length (numbers s) + length regions ≤ 576 → Stands s → Stands (add_copies s q regions)
copies_stand s q [] few h = h
copies_stand s q (r ∷ regions) few h =
    let t : State = add_region s q (copy_of s r) in
    copies_stand t q regions (omega (arith, few, added_length s q (copy_of s r))) (add_stands s s.transfers h q (copy_of s r) (fresh_free s (omega arith)))

pub fork_stands : (s : State) (p q : ℕ) → IsOrderly s → (q < 16) × (entry s.processes q ≡ None) → Stands s → Stands (fork s p q).0
fork_stands s p q o may h = copies_stand (spawned s q) q (accessible (regions_at s p))
    (omega (arith, few_numbers_beside s q o may.0 may.1, numbers_few s, numbers_few (spawned s q), ap length (spawned_all s q may.1), accessible_few s p o.regions))
    (spawn_stands s q may.1 h)
