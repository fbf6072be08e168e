-- A kernel whose pages have only moved.
use Rattle.std.proofs.Common.{◌≡◌, ℕ, ◌<◌, suc, List, [], ◌∷◌, refl, sym, ap, ap₂, subst, arith, ◌∙◌, ⊎_elim, inl, inr, length, get_or}
use Rattle.std.specs.Prelude.{Some, find}
use Rattle.genie_frame.specs.declared.frame.Counts.{Counts}
use Rattle.genie_frame.specs.declared.frame.Owner.{Owner}
use Rattle.genie_frame.specs.FrameTable.{no_counts}
use Rattle.genie_hiding.specs.Hidden.{objects_of, outside}
use Rattle.genie_hiding.specs.Rooms.{MakesRoom}
use Rattle.genie_store.specs.StoreView.{StoreView}
use Rattle.std.specs.Option.{option_map}
use Rattle.genie_object.specs.declared.memory.Memory.{Memory}
use Rattle.genie_object.specs.Memory.{seen_with}
use Rattle.genie_object.specs.Sound.{IsSound, IsSized, FitsHidden}
use Rattle.genie_object.specs.Touching.{KeepsLoans}
use Rattle.genie_model.specs.Tables.{entry}
use Rattle.genie_kernel.specs.declared.kernel.Kernel.{Kernel}
use Rattle.genie_kernel.specs.Backed.{AreGuarded}
use Rattle.genie_kernel.specs.Calls.{has_number}
use Rattle.genie_kernel.specs.Counted.{pool_on}
use Rattle.genie_kernel.specs.Good.{IsGood}
use Rattle.genie_kernel.specs.Kept.{Kept, KeepsOwner}
use Rattle.genie_kernel.specs.Laws.{MemoryCallsKeepGood, MemoryCallsKeepLent}
use Rattle.genie_kernel.specs.Regions.{owned_regions}
use Rattle.genie_kernel.specs.Told.{rests_of, sents_of}
use Rattle.genie_kernel.specs.View.{view}
use Rattle.genie_changes.specs.Making.{with_memory, IsMoved, ShowsAndLends}
use Rattle.genie_changes.specs.Lemmas.Outside.{guards_outside, told_same}

clocked : (k : Kernel) (m : Memory) (clock : ℕ) → IsGood (record k { memory = m }) → IsGood (with_memory k m clock)
clocked k m clock g = record {
  fits = g.fits;
  sized = g.sized;
  spaced = g.spaced;
  equipped = g.equipped;
  orderly = g.orderly;
  sound = g.sound;
  cached = g.cached;
  few = g.few;
  backed = g.backed;
  guarded = g.guarded;
  counted = g.counted;
  owners = g.owners;
  held = g.held;
  planned = g.planned;
  fitting = g.fitting;
  posted = g.posted;
  sending = g.sending;
  receiving = g.receiving;
  arrived = g.arrived;
}

clocked_kept : (k : Kernel) (m : Memory) (clock : ℕ) → Kept k (record k { memory = m }) → Kept k (with_memory k m clock)
clocked_kept k m clock x = record {
  lent = λ n f t u p. x.lent n f t u (record { was = p.was; is = p.is });
  pooled = x.pooled;
  fresh = λ n f t u p. x.fresh n f t u (record { was = p.was; is = p.is });
}

-- what a call of the memory leaves that keeps loans and shows the same outside hidden regions
module _ (good : MemoryCallsKeepGood) (lent : MemoryCallsKeepLent) (k new : Kernel) (v w : StoreView) (g : IsGood k) (only : new ≡ with_memory k new.memory new.clock) where
  moved_by : IsSound new.memory → IsSized new.memory w → FitsHidden new.memory (objects_of k.hidden) → AreGuarded new.memory.objects (owned_regions k.spaces.processes) → option_map (outside (objects_of k.hidden)) (seen_with new.memory w) ≡ option_map (outside (objects_of k.hidden)) (seen_with k.memory v) → KeepsLoans k.memory new.memory → new.memory.frames.counts ≡ k.memory.frames.counts → IsMoved k new v w
  moved_by sound sized fits guarded seen keeps counts = record {
    only = only;
    good = subst IsGood (sym only) (clocked k new.memory new.clock (good k new.memory g sound fits guarded counts keeps));
    sized = sized;
    kept = subst (Kept k) (sym only) (clocked_kept k new.memory new.clock (lent k new.memory g keeps));
    told = λ host. ap (λ x. view x host w) only ∙ told_same k g (seen_with new.memory w) (seen_with k.memory v) (rests_of host k.config) (sents_of host k.config) seen;
  }

  pub room_made : IsSized k.memory v → MakesRoom (objects_of k.hidden) k.memory new.memory v w → IsMoved k new v w
  room_made sized r = moved_by r.sound (r.sized sized) r.fits (guards_outside k new.memory g r.narrows) r.seen r.keeps r.counts

  same_lists : (xs ys : List Counts) → length xs ≡ length ys → ((i : ℕ) → get_or xs i no_counts ≡ get_or ys i no_counts) → xs ≡ ys
  same_lists [] [] e h = refl
  same_lists [] (y ∷ ys) e h = absurd (omega (arith, e))
  same_lists (x ∷ xs) [] e h = absurd (omega (arith, e))
  same_lists (x ∷ xs) (y ∷ ys) e h = ap₂ ◌∷◌ (h 0) (same_lists xs ys (omega (arith, e)) (λ i. h (suc i)))

  pub memory_moved : ShowsAndLends k new.memory v w → IsMoved k new v w
  memory_moved x =
      let size : length new.memory.frames.counts ≡ length k.memory.frames.counts = x.sound.shaped.counted ∙ x.keeps.number ∙ sym g.sound.shaped.counted in
      moved_by x.sound x.sized x.cached x.guarded (ap (option_map (outside (objects_of k.hidden))) x.shows) x.keeps (same_lists new.memory.frames.counts k.memory.frames.counts size x.counts)

owner_on : (a b c : Owner) → KeepsOwner a b → KeepsOwner b c → KeepsOwner a c
owner_on a b c x y = record {
  owner = ⊎_elim (λ same. ⊎_elim (λ was. inl (same ∙ was)) (λ left. inr (same ∙ left)) x.owner) (λ left. inr left) y.owner;
  unfreed = y.unfreed;
}

pub kept_since : (old mid new : Kernel) (v w : StoreView) → IsMoved old mid v w → Kept mid new → Kept old new
kept_since old mid new v w moved x =
    let transfers : mid.transfers ≡ old.transfers = ap (λ (k : Kernel). k.transfers) moved.only in
    let pools : mid.pools ≡ old.pools = ap (λ (k : Kernel). k.pools) moved.only in
    record {
      lent = λ n f t u p on still.
          let was : find (has_number n) mid.transfers ≡ Some t = ap (find (has_number n)) transfers ∙ p.was in
          owner_on _ _ _ (moved.kept.lent n f t t (record { was = p.was; is = was }) on on) (x.lent n f t u (record { was = was; is = p.is }) on still);
      pooled = λ d f on still.
          let was = subst (λ ps. 0 < pool_on f (entry ps d)) (sym pools) on in
          owner_on _ _ _ (moved.kept.pooled d f on was) (x.pooled d f was still);
      fresh = λ n f t u p. x.fresh n f t u (record { was = ap (find (has_number n)) transfers ∙ p.was; is = p.is });
    }

pub moves_on : (a b c : Kernel) (u v w : StoreView) → IsMoved a b u v → IsMoved b c v w → IsMoved a c u w
moves_on a b c u v w x y = record {
  only = y.only ∙ ap (λ (k : Kernel). with_memory k c.memory c.clock) x.only;
  good = y.good;
  sized = y.sized;
  kept = kept_since a b c u v x y.kept;
  told = λ host. y.told host ∙ x.told host;
}
