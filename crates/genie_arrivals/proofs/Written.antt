-- The kernel once bytes were stored in a region, and no loan and no frame of the system has changed.
use Rattle.std.proofs.Common.{◌≡◌, ℕ, ◌/◌, Bool, true, false, not, List, [], ◌∷◌, refl, sym, ap, arith, ◌∙◌, length, get_or, ⊎_elim, inl, inr}
use Rattle.std.specs.Prelude.{if◌then◌else◌}
use Rattle.genie_base.specs.Counts.{span}
use Rattle.genie_frame.specs.declared.frame.Owner.TheVariants.{Free, Pool, Nobody}
use Rattle.genie_frame.specs.FrameTable.{counts_at, is_lent, is_page, owner_at}
use Rattle.genie_hiding.specs.Hidden.{is_among, objects_of}
use Rattle.genie_hiding.specs.Lemmas.Naming.{fits_kept}
use Rattle.genie_object.specs.declared.memory.Memory.{Memory}
use Rattle.genie_object.specs.declared.objects.Entry.{Entry}
use Rattle.genie_object.specs.Objects.{is_absent, object_at}
use Rattle.genie_object.specs.Sound.{FitsHidden}
use Rattle.genie_object.specs.Touching.{is_in_range}
use Rattle.genie_model.specs.Lemmas.Lists.{has_at}
use Rattle.genie_kernel.specs.declared.kernel.Kernel.{Kernel}
use Rattle.genie_kernel.specs.declared.transfer.Transfer.{Transfer}
use Rattle.genie_kernel.specs.Backed.{AreGuarded, all_regions}
use Rattle.genie_kernel.specs.Calls.{is_strong_call}
use Rattle.genie_kernel.specs.Good.{IsGood}
use Rattle.genie_kernel.specs.Held.{weak_transfers}
use Rattle.genie_kernel.specs.Kept.{KeepsOwner}
use Rattle.genie_kernel.specs.Loans.{frames_of}
use Rattle.genie_kernel.specs.Regions.{owned_regions}
use Rattle.genie_kernel.specs.Lemmas.Staying.{lent_true, pool_same, system_same, weak_held, weak_there}
use Rattle.genie_changes.specs.Pages.{EachFrame, StaysInFrame}
use Rattle.genie_changes.specs.Pending.{OwnFramesStay}
use Rattle.genie_arrivals.specs.FreshStored.{StoresBytes}
use Rattle.genie_arrivals.specs.SwapLaws.{SwapLaws}

absent_same : (a b : List Entry) → length b ≡ length a → is_absent a ≡ is_absent b
absent_same [] [] e = refl
absent_same [] (y ∷ b) e = absurd (omega (arith, e))
absent_same (x ∷ a) [] e = absurd (omega (arith, e))
absent_same (x ∷ a) (y ∷ b) e = refl

not_true : (b : Bool) → not b ≡ true → b ≡ false
not_true true e = absurd (cc)
not_true false e = refl

module _ (swap : SwapLaws) (k : Kernel) (g : IsGood k) (m : Memory) (o off : ℕ) (bytes : List ℕ) (x : StoresBytes k.memory m o off bytes) (unhidden : (a i : ℕ) → is_among a (objects_of k.hidden) ≡ true → is_in_range o (off / k.memory.frames.page) (span k.memory.frames.page off (length bytes)) a i ≡ false) (guarded : AreGuarded m.objects (owned_regions k.spaces.processes)) where
  abbrev pub written : Kernel
  written = record k { memory = m }

  same_counts : (f : ℕ) → counts_at m.frames f ≡ counts_at k.memory.frames f
  same_counts f = x.keeps.counts f refl

  cached : FitsHidden m (objects_of k.hidden)
  cached = fits_kept (is_in_range o (off / k.memory.frames.page) (span k.memory.frames.page off (length bytes))) k.memory m (objects_of k.hidden) g.sound x.touches x.keeps.entries unhidden g.cached

  stays : EachFrame (StaysInFrame k.memory m) (weak_transfers k.transfers)
  stays i d l j lj =
      let u : Transfer = get_or (weak_transfers k.transfers) i d in
      let weak = weak_there k.transfers u (has_at (weak_transfers k.transfers) i d l) in
      let f : ℕ = get_or (frames_of u.loans) j 0 in
      let held = weak_held k u j g weak.0 (not_true (is_strong_call u) weak.1) lj in
      record {
        entries = λ a b e. x.keeps.entry_held a b f e held;
        nobody = λ e. ⊎_elim (λ same. same ∙ e) (λ (left : (is_page (owner_at k.memory.frames f) ≡ true) × (owner_at m.frames f ≡ Nobody)). left.1) (x.keeps.lent f refl (lent_true (counts_at k.memory.frames f) held));
      }

  own_stay : OwnFramesStay k.memory.frames.owners m.frames.owners k.transfers
  own_stay i d l f e = system_same (owner_at k.memory.frames f) (owner_at m.frames f) (get_or k.transfers i d).id.0 (sym (x.keeps.systems f refl)) e

  -- it is good
  pub written_good : IsGood written
  written_good = record {
    fits = g.fits;
    sized = record { page = x.keeps.page ∙ g.sized.page; frames = x.keeps.number ∙ g.sized.frames; slots = x.keeps.slots ∙ g.sized.slots; pages = x.keeps.most ∙ g.sized.pages };
    spaced = g.spaced;
    equipped = g.equipped;
    orderly = g.orderly;
    sound = x.sound;
    cached = cached;
    few = g.few;
    backed = record {
      each = λ i d l. x.keeps.entries (get_or (all_regions k.spaces.processes k.hidden) i d).object.0 ∙ g.backed.each i d l;
      some = g.backed.some;
      one = λ a. g.backed.one a ∙ ap (λ b. if b then 0 else 1) (absent_same (object_at k.memory.objects a) (object_at m.objects a) (x.keeps.entries a));
    };
    guarded = guarded;
    counted = λ f. same_counts f ∙ g.counted f;
    owners = record {
      system = λ f j e. g.owners.system f j (system_same (owner_at m.frames f) (owner_at k.memory.frames f) j (x.keeps.systems f refl) e);
      pooled = λ f d e. g.owners.pooled f d (pool_same (owner_at m.frames f) (owner_at k.memory.frames f) d (x.keeps.systems f refl) e);
      spare = λ f d e. g.owners.spare f d (pool_same (owner_at m.frames f) (owner_at k.memory.frames f) d (x.keeps.systems f refl) e);
      pool_frames = λ f d on. pool_same (owner_at k.memory.frames f) (owner_at m.frames f) d (sym (x.keeps.systems f refl)) (g.owners.pool_frames f d on);
    };
    held = swap.held_stay k.config.page k.memory m (owned_regions k.spaces.processes) k.transfers stays g.held;
    planned = swap.planned_stay k.config.page k.memory.frames.owners m.frames.owners k.devices k.transfers own_stay g.planned;
    fitting = g.fitting;
    posted = g.posted;
    sending = g.sending;
    receiving = g.receiving;
    arrived = g.arrived;
  }

  -- a lent frame keeps its owner, or its page leaves it to nobody
  pub lent_kept : (f : ℕ) → is_lent (counts_at k.memory.frames f) ≡ true → KeepsOwner (owner_at k.memory.frames f) (owner_at m.frames f)
  lent_kept f lent = record {
    owner = ⊎_elim (λ same. inl same) (λ (left : (is_page (owner_at k.memory.frames f) ≡ true) × (owner_at m.frames f ≡ Nobody)). inr left.1) (x.keeps.lent f refl lent);
    unfreed = λ free. let unlent = (x.sound.lent f).free free in let same = ap is_lent (same_counts f) in let clash : true ≡ false = sym lent ∙ sym same ∙ unlent in absurd (cc);
  }

  pub pooled_kept : (f d : ℕ) → owner_at k.memory.frames f ≡ Pool d → KeepsOwner (owner_at k.memory.frames f) (owner_at m.frames f)
  pooled_kept f d was =
      let is : owner_at m.frames f ≡ Pool d = pool_same (owner_at k.memory.frames f) (owner_at m.frames f) d (sym (x.keeps.systems f refl)) was in
      record { owner = inl (is ∙ sym was); unfreed = λ free. let clash : Pool d ≡ Free = sym is ∙ free in cc }
