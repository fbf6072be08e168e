-- What each change that the end of a transfer is made of keeps, the whole end keeps.
use Rattle.std.proofs.Common.{ℕ, List}
use Rattle.std.specs.Prelude.{Option, Some, None}
use Rattle.std.proofs.lemmas.Bool.{cond_both}
use Rattle.genie_base.specs.declared.region.RegionState.TheVariants.{Live}
use Rattle.genie_base.specs.declared.semantics.Class.{Class}
use Rattle.genie_base.specs.declared.semantics.Class.TheVariants.{Copy, Share, Move, WeakMove}
use Rattle.genie_base.specs.declared.semantics.Direction.{Direction}
use Rattle.genie_base.specs.declared.semantics.Direction.TheVariants.{Outward, Inward}
use Rattle.genie_model.specs.State.{State, Region, Transfer}
use Rattle.genie_model.specs.Regions.{write_reach_of, change_region, with_state, put}
use Rattle.genie_model.specs.Pending.{is_early_at}
use Rattle.genie_model.specs.Inputs.{address_or_zero}
use Rattle.genie_model.specs.Ending.{region_of, filled, after_landing, finish_copy, finish_share, finish_move, finish_weak_move, finish_input, finish_owned, finish_for}

module _ (P : State → Type 0) (bytes : (s : State) (k x : ℕ) (new : List ℕ) → P s → P (put s k x new)) (fill : (s : State) (k : ℕ) (new : List ℕ) → P s → P (change_region s k (filled new))) (live : (s : State) (k : ℕ) → P s → P (change_region s k (with_state Live))) where
  landing_keeps : (s : State) (t : Transfer) (r : Region) → P s → P (after_landing s t r)
  landing_keeps s t r h = cond_both (is_early_at s t.device) s (put s r.number t.offset t.payload) P (λ _. h) (λ _. bytes s r.number t.offset t.payload h)

  copy_keeps : (s : State) (t : Transfer) (o : Option Region) → P s → P (finish_copy s t o).0
  copy_keeps s t None h = h
  copy_keeps s t (Some r) h = bytes s r.number _ t.payload h

  share_keeps : (s : State) (t : Transfer) (o : Option Region) → P s → P (finish_share s t o).0
  share_keeps s t None h = h
  share_keeps s t (Some r) h = landing_keeps s t r h

  move_keeps : (s : State) (t : Transfer) (o : Option Region) → P s → P (finish_move s t o).0
  move_keeps s t None h = h
  move_keeps s t (Some r) h = fill s r.number t.payload h

  weak_move_keeps : (s : State) (t : Transfer) (o : Option Region) → P s → P (finish_weak_move s t o).0
  weak_move_keeps s t None h = h
  weak_move_keeps s t (Some r) h = live (after_landing s t r) r.number (landing_keeps s t r h)

  input_keeps : (s : State) (p : ℕ) (t : Transfer) (class : Class) → P s → P (finish_input s p t class).0
  input_keeps s p t Copy h = copy_keeps s t (write_reach_of s p (address_or_zero t.addr) t.len) h
  input_keeps s p t Share h = share_keeps s t (region_of s t) h
  input_keeps s p t Move h = move_keeps s t (region_of s t) h
  input_keeps s p t WeakMove h = weak_move_keeps s t (region_of s t) h

  owned_keeps : (s : State) (p : ℕ) (t : Transfer) (direction : Direction) → P s → P (finish_owned s p t direction).0
  owned_keeps s p t Outward h = h
  owned_keeps s p t Inward h = input_keeps s p t t.class h

  pub finish_for_keeps : (s : State) (t : Transfer) (o : Option ℕ) → P s → P (finish_for s t o).0
  finish_for_keeps s t None h = h
  finish_for_keeps s t (Some p) h = owned_keeps s p t t.direction h
