-- What transfers name stays there where a transfer ends.
use Rattle.std.proofs.Common.{◌≡◌, ℕ, false, refl}
use Rattle.std.specs.Prelude.{Option, Some, None}
use Rattle.std.specs.List.{list_any}
use Rattle.std.proofs.lemmas.Bool.{cond_both}
use Rattle.genie_base.specs.declared.region.RegionState.TheVariants.{Live}
use Rattle.genie_base.specs.declared.semantics.Class.{Class}
use Rattle.genie_base.specs.declared.semantics.Class.TheVariants.{Copy, Share, Move, WeakMove}
use Rattle.genie_base.specs.declared.semantics.Direction.{Direction}
use Rattle.genie_base.specs.declared.semantics.Direction.TheVariants.{Outward, Inward}
use Rattle.genie_model.specs.State.{State, Region, Transfer}
use Rattle.genie_model.specs.Regions.{place_in, write_reach_of, change_region, with_state, put}
use Rattle.genie_model.specs.Pending.{is_early_at, is_numbered, pending}
use Rattle.genie_model.specs.Outputs.{give_up}
use Rattle.genie_model.specs.Inputs.{address_or_zero}
use Rattle.genie_model.specs.Ending.{without_transfer, region_of, finish_copy, filled, finish_move, finish_share, finish_weak_move, finish_input, finish_owned, finish_for, finish_found, cancel_found}
use Rattle.genie_orderly.specs.Orderly.{moves_into, NumbersDiffer}
use Rattle.genie_orderly.specs.Lemmas.FoundRegions.{named_region}
use Rattle.genie_orderly.specs.Lemmas.NamingTransfers.{stand_without, none_left}
use Rattle.genie_orderly.proofs.Names.SpaceEvents.{Stands, put_stands, state_stands, give_up_stands}
use Rattle.genie_orderly.specs.Lemmas.BufferRegions.{live_place, filled_place}

copy_stands : (s : State) (t : Transfer) (o : Option Region) → Stands s → Stands (finish_copy s t o).0
copy_stands s t None h = h
copy_stands s t (Some r) h = put_stands s s.transfers h r.number (place_in s r (address_or_zero t.addr)) t.payload

share_stands : (s : State) (t : Transfer) (o : Option Region) → Stands s → Stands (finish_share s t o).0
share_stands s t None h = h
share_stands s t (Some r) h = cond_both (is_early_at s t.device) s (put s r.number t.offset t.payload) Stands (λ _. h) (λ _. put_stands s s.transfers h r.number t.offset t.payload)

-- where the transfer is taken away that named the region
module _ (s : State) (t : Transfer) (none : (r : Region) → region_of s t ≡ Some r → list_any (moves_into r.number) s.transfers ≡ false) (h : Stands s) where
  move_stands : (o : Option Region) → region_of s t ≡ o → Stands (finish_move s t o).0
  move_stands None e = h
  move_stands (Some r) e = state_stands s s.transfers h (change_region s r.number (filled t.payload)) r.number (filled t.payload) (filled_place s r.number t.payload) (none r e)

  live_stands : (w : State) (r : Region) → Stands w → list_any (moves_into r.number) w.transfers ≡ false → Stands (change_region w r.number (with_state Live))
  live_stands w r g free = state_stands w w.transfers g (change_region w r.number (with_state Live)) r.number (with_state Live) (live_place w r.number) free

  weak_move_stands : (o : Option Region) → region_of s t ≡ o → Stands (finish_weak_move s t o).0
  weak_move_stands None e = h
  weak_move_stands (Some r) e = cond_both (is_early_at s t.device) s (put s r.number t.offset t.payload) (λ (w : State). Stands (change_region w r.number (with_state Live)))
      (λ _. live_stands s r h (none r e)) (λ _. live_stands (put s r.number t.offset t.payload) r (put_stands s s.transfers h r.number t.offset t.payload) (none r e))

  input_stands : (p : ℕ) (class : Class) → Stands (finish_input s p t class).0
  input_stands p Copy = copy_stands s t (write_reach_of s p (address_or_zero t.addr) t.len) h
  input_stands p Share = share_stands s t (region_of s t) h
  input_stands p Move = move_stands (region_of s t) refl
  input_stands p WeakMove = weak_move_stands (region_of s t) refl

  owned_stands : (p : ℕ) (direction : Direction) → Stands (finish_owned s p t direction).0
  owned_stands p Outward = h
  owned_stands p Inward = input_stands p t.class

  for_stands : (o : Option ℕ) → Stands (finish_for s t o).0
  for_stands None = h
  for_stands (Some p) = owned_stands p t.direction

  cancel_stands : NumbersDiffer s → (class : Class) (o : Option Region) → region_of s t ≡ o → Stands (give_up s class o)
  cancel_stands differs class None e = h
  cancel_stands differs class (Some r) e = give_up_stands s h differs class r (named_region s t.region r e).0 (none r e)

taken_stands : (s : State) (k : ℕ) → Stands s → Stands (without_transfer s k)
taken_stands s k h = let g = stand_without s s.transfers (is_numbered k) h in record { each = g.each; one = g.one }

taken_none : (s : State) (k : ℕ) (t : Transfer) → Stands s → pending s k ≡ Some t → (r : Region) → region_of (without_transfer s k) t ≡ Some r → list_any (moves_into r.number) (without_transfer s k).transfers ≡ false
taken_none s k t h e r named = none_left s.transfers (is_numbered k) t r.number h.one e (named_region (without_transfer s k) t.region r named).1

pub finished_stands : (s : State) (k : ℕ) (o : Option Transfer) → pending s k ≡ o → Stands s → Stands (finish_found s k o).0
finished_stands s k None e h = h
finished_stands s k (Some t) e h = for_stands (without_transfer s k) t (taken_none s k t h e) (taken_stands s k h) t.owner

pub cancelled_stands : (s : State) (k : ℕ) (o : Option Transfer) → NumbersDiffer s → pending s k ≡ o → Stands s → Stands (cancel_found s k o).0
cancelled_stands s k None differs e h = h
cancelled_stands s k (Some t) differs e h = let rest = without_transfer s k in cancel_stands rest t (taken_none s k t h e) (taken_stands s k h) differs t.class (region_of rest t) refl
