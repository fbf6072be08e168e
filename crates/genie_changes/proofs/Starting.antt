-- A transfer that begins.
use Rattle.std.proofs.Common.{◌≡◌, ℕ, ◌<◌, ◌≤◌, zero, suc, Bool, true, false, cond, List, [], ◌∷◌, ◌++◌, refl, sym, ap, subst, arith, rules, ◌∙◌, ⊎_elim, inl, inr, length, map, filter, get_or}
use Rattle.std.specs.Prelude.{Option, Some, None, IfSome, find, sum_by, if◌then◌else◌}
use Rattle.std.proofs.lemmas.Bool.{cases_Bool}
use Rattle.std.proofs.lemmas.List.Elements.{filter-append}
use Rattle.std.proofs.lemmas.List.Sums.{sum_by-cons}
use Rattle.genie_base.specs.declared.semantics.Direction.{Direction}
use Rattle.genie_base.specs.declared.semantics.Direction.TheVariants.{Outward, Inward}
use Rattle.genie_device.specs.Device.{DeviceView}
use Rattle.genie_frame.specs.declared.frame.Counts.{Counts}
use Rattle.genie_frame.specs.declared.frame.Owner.{Owner}
use Rattle.genie_frame.specs.declared.frame.Owner.TheVariants.{Free, System, Pool, Nobody}
use Rattle.genie_frame.specs.FrameTable.{owner_at, counts_at, is_lent, is_page}
use Rattle.genie_input.specs.Pools.{PoolState}
use Rattle.genie_object.specs.declared.memory.Memory.{Memory}
use Rattle.genie_object.specs.declared.objects.Entry.{Entry}
use Rattle.genie_object.specs.Objects.{object_at, is_absent}
use Rattle.genie_orderly.specs.Orderly.{IsOrderly}
use Rattle.genie_model.specs.declared.phase.Phase.{Phase}
use Rattle.genie_model.specs.Pending.{is_moving, is_posted, is_ready}
use Rattle.genie_model.specs.Lemmas.Lists.{Has, find_has}
use Rattle.genie_model.specs.Tables.{entry}
use Rattle.genie_kernel.specs.declared.kernel.Kernel.{Kernel}
use Rattle.genie_kernel.specs.declared.transfer.Transfer.{Transfer}
use Rattle.genie_kernel.specs.Backed.{AreBacked, all_regions}
use Rattle.genie_kernel.specs.Calls.{first_waiting, has_number, number_of}
use Rattle.genie_kernel.specs.Counted.{lent_of, pool_on}
use Rattle.genie_kernel.specs.Good.{IsGood}
use Rattle.genie_kernel.specs.Held.{AreHeldPages, weak_transfers}
use Rattle.genie_kernel.specs.Kept.{Kept, KeepsOwner}
use Rattle.genie_kernel.specs.Loans.{frames_of, has_frame}
use Rattle.genie_kernel.specs.Matching.{ArePosted, IsIdle, IsSending}
use Rattle.genie_kernel.specs.Owners.{AreOwned, holders}
use Rattle.genie_kernel.specs.Regions.{owned_regions}
use Rattle.genie_kernel.specs.Transfers.{sent_by, staged_by}
use Rattle.genie_kernel.specs.View.{outline}
use Rattle.genie_kernel.specs.Lemmas.HeldMore.{held_more}
use Rattle.genie_kernel.specs.Lemmas.Keeping.{transfer_lent}
use Rattle.genie_kernel.specs.Lemmas.Lending.{counts_grow}
use Rattle.genie_kernel.specs.Lemmas.Staying.{lent_true}
use Rattle.genie_changes.specs.Beginning.{HasParts, IsNew, Begins, posted_with, with_call}
use Rattle.genie_changes.specs.Pages.{EachFrame, StaysInFrame}
use Rattle.genie_changes.specs.Pending.{OwnFramesStay}
use Rattle.genie_changes.specs.States.{WaitsBehind, first_phase}
use Rattle.genie_changes.proofs.Beside.{held_beside_strong}
use Rattle.genie_changes.proofs.Holding.{held_stay}
use Rattle.genie_changes.proofs.Lists.{append_none, found_before, map_more}
use Rattle.genie_changes.proofs.Matching.{arrived_more, posted_beside_more, posted_more, receiving_more, sending_more}
use Rattle.genie_changes.proofs.Planning.{fitting_more, planned_more, planned_stay}
use Rattle.genie_changes.proofs.Premises.{weak_frames_held}
use Rattle.genie_changes.proofs.Rising.{transfers_rise}

pub parts_good : (k : Kernel) → HasParts k → IsOrderly (outline k) → IsGood k
parts_good k p orderly = record {
  fits = p.fits;
  sized = p.sized;
  spaced = p.spaced;
  equipped = p.equipped;
  orderly = orderly;
  sound = p.sound;
  cached = p.cached;
  few = p.few;
  backed = p.backed;
  guarded = p.guarded;
  counted = p.counted;
  owners = p.owners;
  held = p.held;
  planned = p.planned;
  fitting = p.fitting;
  posted = p.posted;
  sending = p.sending;
  receiving = p.receiving;
  arrived = p.arrived;
}

pub good_parts : (k : Kernel) → IsGood k → HasParts k
good_parts k g = record {
  fits = g.fits;
  sized = g.sized;
  spaced = g.spaced;
  equipped = g.equipped;
  sound = g.sound;
  cached = g.cached;
  few = g.few;
  backed = g.backed;
  guarded = g.guarded;
  counted = g.counted;
  owners = g.owners;
  held = g.held;
  planned = g.planned;
  fitting = g.fitting;
  posted = g.posted;
  sending = g.sending;
  receiving = g.receiving;
  arrived = g.arrived;
}

-- an idle device has staged and sent nothing
none_staged : (o : Option DeviceView) (first : Option Transfer) → first ≡ None → IfSome o (λ (v : DeviceView). IsSending v first) → staged_by o ≡ []
none_staged None first e h = refl
none_staged (Some v) first e h = let idle : IsIdle v = subst (IsSending v) e h in idle.unstaged

none_sent : (o : Option DeviceView) (first : Option Transfer) → first ≡ None → IfSome o (λ (v : DeviceView). IsSending v first) → sent_by o ≡ 0
none_sent None first e h = refl
none_sent (Some v) first e h = let idle : IsIdle v = subst (IsSending v) e h in idle.unsent

pub new_waits : (k : Kernel) (t : Transfer) → IsGood k → IsNew k t → WaitsBehind k.devices t k.transfers
new_waits k t g n = record {
  phase = n.phase;
  unstored = n.unstored;
  later = λ i d l same. let less = (transfers_rise k g).below i d l in omega (arith, less, same, n.number);
  unstaged = λ out none. none_staged (entry k.devices t.dev) (first_waiting k.transfers t.dev) none (g.sending t.dev);
  unsent = λ out none. none_sent (entry k.devices t.dev) (first_waiting k.transfers t.dev) none (g.sending t.dev);
}

filtered_none : (p : Transfer → Bool) (ts : List Transfer) → ((u : Transfer) → Has u ts → p u ≡ false) → filter p ts ≡ []
filtered_none p [] h = refl
filtered_none p (x ∷ ts) h = ap (λ b. cond b (x ∷ filter p ts) (filter p ts)) (h x (inl refl)) ∙ filtered_none p ts (λ u i. h u (inr i))

-- the holders of a frame with one transfer more
holders_more : (f : ℕ) (t : Transfer) (ts : List Transfer) (b : Bool) → has_frame f t ≡ b → holders (ts ++ t ∷ []) f ≡ map number_of (filter (has_frame f) ts ++ cond b (t ∷ []) [])
holders_more f t ts b e = ap (map number_of) (filter-append (has_frame f) ts (t ∷ []) ∙ ap (λ c. filter (has_frame f) ts ++ cond c (t ∷ []) []) e)

holders_same : (f : ℕ) (t : Transfer) (ts : List Transfer) → has_frame f t ≡ false → holders (ts ++ t ∷ []) f ≡ holders ts f
holders_same f t ts e = holders_more f t ts false e ∙ ap (map number_of) (append_none (filter (has_frame f) ts))

holders_one : (f : ℕ) (t : Transfer) (ts : List Transfer) → has_frame f t ≡ true → holders ts f ≡ [] → holders (ts ++ t ∷ []) f ≡ t.id.0 ∷ []
holders_one f t ts e none = holders_more f t ts true e ∙ map_more number_of (filter (has_frame f) ts) t ∙ ap (λ l. l ++ t.id.0 ∷ []) none

pool_most : (f : ℕ) (pools : List (Option PoolState)) (d : ℕ) → pool_on f (entry pools d) ≤ sum_by (pool_on f) pools
pool_most f [] d = omega arith
pool_most f (p ∷ ps) zero = omega (arith, sum_by-cons (pool_on f) p ps)
pool_most f (p ∷ ps) (suc d) = omega (arith, sum_by-cons (pool_on f) p ps, pool_most f ps d)

input_lent : (c : Counts) → 0 < c.input → is_lent c ≡ true
input_lent c l = grind (arith, rules, l)

absent_same : (a b : List Entry) → length b ≡ length a → is_absent a ≡ is_absent b
absent_same [] [] e = refl
absent_same [] (y ∷ b) e = absurd (omega (arith, e))
absent_same (x ∷ a) [] e = absurd (omega (arith, e))
absent_same (x ∷ a) (y ∷ b) e = refl

unmoved : (p : Phase) (d : Direction) → p ≡ first_phase d → is_moving p ≡ false
unmoved p Outward e = ap is_moving e
unmoved p Inward e = ap is_moving e

unready : (p : Phase) (d : Direction) → p ≡ first_phase d → is_ready p ≡ false
unready p Outward e = ap is_ready e
unready p Inward e = ap is_ready e

same_one : (o : Option Transfer) (t u : Transfer) → o ≡ Some t → o ≡ Some u → t ≡ u
same_one o t u a b = let e : Some t ≡ Some u = sym a ∙ b in cc

module _ (k : Kernel) (m : Memory) (t : Transfer) (g : IsGood k) (b : Begins k m t) where
  abbrev ts : List Transfer
  ts = k.transfers

  -- nobody holds a frame that isn't lent
  no_holders : (f : ℕ) → is_lent (counts_at k.memory.frames f) ≡ false → holders ts f ≡ []
  no_holders f none = ap (map number_of) (filtered_none (has_frame f) ts (λ u there. ⊎_elim
      (λ (on : has_frame f u ≡ true). let lent = transfer_lent k f u g there on in let clash : true ≡ false = sym lent ∙ none in absurd (cc))
      (λ off. off)
      (cases_Bool (has_frame f u))))

  -- a system frame is lent
  system_lent : (f j : ℕ) → owner_at k.memory.frames f ≡ System j → is_lent (counts_at k.memory.frames f) ≡ true
  system_lent f j is = ⊎_elim
      (λ lent. lent)
      (λ (none : is_lent (counts_at k.memory.frames f) ≡ false). let empty = no_holders f none in let one = g.owners.system f j is in absurd (cc))
      (cases_Bool (is_lent (counts_at k.memory.frames f)))

  -- so is a frame of a pool
  pool_lent : (f d : ℕ) → 0 < pool_on f (entry k.pools d) → is_lent (counts_at k.memory.frames f) ≡ true
  pool_lent f d l =
      let most = pool_most f k.pools d in
      subst (λ c. is_lent c ≡ true) (sym (g.counted f)) (input_lent (lent_of ts k.pools f) (omega (arith, most, l)))

  -- a lent frame that isn't a page's keeps its owner
  owner_still : (f : ℕ) (o : Owner) → owner_at k.memory.frames f ≡ o → is_page o ≡ false → is_lent (counts_at k.memory.frames f) ≡ true → owner_at m.frames f ≡ o
  owner_still f o is other lent = ⊎_elim
      (λ same. same ∙ is)
      (λ (left : (is_page (owner_at k.memory.frames f) ≡ true) × (owner_at m.frames f ≡ Nobody)). let clash : true ≡ false = sym left.0 ∙ ap is_page is ∙ other in absurd (cc))
      (b.lasts f lent).owner

  own_stay : OwnFramesStay k.memory.frames.owners m.frames.owners ts
  own_stay i d l f is = let n : ℕ = (get_or ts i d).id.0 in owner_still f (System n) is refl (system_lent f n is)

  frames_stay : EachFrame (StaysInFrame k.memory m) (weak_transfers ts)
  frames_stay i d l j n =
      let u : Transfer = get_or (weak_transfers ts) i d in
      let f : ℕ = get_or (frames_of u.loans) j 0 in
      let held = weak_frames_held k g i d l j n in
      record {
        entries = λ o x e. b.entry_held o x f e held;
        nobody = λ e. owner_still f Nobody e refl (lent_true (counts_at k.memory.frames f) held);
      }

  begun_owned : AreOwned m.frames.owners (ts ++ t ∷ []) k.pools
  begun_owned = record {
    system = λ f j is. ⊎_elim
        (λ (was : (owner_at k.memory.frames f ≡ System j) × (has_frame f t ≡ false)). holders_same f t ts was.1 ∙ g.owners.system f j was.0)
        (λ taken. holders_one f t ts taken.1 (no_holders f taken.2) ∙ ap (λ n. n ∷ []) (sym taken.0))
        (b.takes.system f j is);
    pooled = λ f d is. g.owners.pooled f d (b.takes.pool f d is).0;
    spare = λ f d is. let was = b.takes.pool f d is in holders_same f t ts was.1 ∙ g.owners.spare f d was.0;
    pool_frames = λ f d l. owner_still f (Pool d) (g.owners.pool_frames f d l) refl (pool_lent f d l);
  }

  begun_held : AreHeldPages k.config.page m (owned_regions k.spaces.processes) (ts ++ t ∷ [])
  begun_held =
      let stays = held_stay k.config.page k.memory m (owned_regions k.spaces.processes) ts frames_stay g.held in
      ⊎_elim
      (λ strong. held_beside_strong k.config.page m (owned_regions k.spaces.processes) t ts strong stays)
      (λ beside. held_more k.config.page m (owned_regions k.spaces.processes) t ts beside stays)
      b.holds

  begun_backed : AreBacked m.objects (all_regions k.spaces.processes k.hidden)
  begun_backed = record {
    each = λ i d l. b.places.entries (get_or (all_regions k.spaces.processes k.hidden) i d).object.0 ∙ g.backed.each i d l;
    some = g.backed.some;
    one = λ o. g.backed.one o ∙ ap (λ c. if c then 0 else 1) (absent_same (object_at k.memory.objects o) (object_at m.objects o) (b.places.entries o));
  }

  begun_posted : IsNew k t → (d : Direction) → t.dir ≡ d → ArePosted (posted_with t d k.posted) (ts ++ t ∷ [])
  begun_posted n Outward e = posted_beside_more t k.posted ts (ap is_posted (n.phase ∙ ap first_phase e)) g.posted
  begun_posted n Inward e = posted_more t k.posted ts (ap is_posted (n.phase ∙ ap first_phase e)) n.unstored g.posted

  pub begun_parts : IsNew k t → HasParts (with_call k m t)
  begun_parts n = record {
    fits = g.fits;
    sized = record { page = b.places.page ∙ g.sized.page; frames = b.places.number ∙ g.sized.frames; slots = b.places.slots ∙ g.sized.slots; pages = b.places.most ∙ g.sized.pages };
    spaced = g.spaced;
    equipped = g.equipped;
    sound = b.sound;
    cached = b.cached;
    few = g.few;
    backed = begun_backed;
    guarded = b.guarded;
    counted = counts_grow t ts k.pools k.memory.frames.counts m.frames.counts b.lends g.counted;
    owners = begun_owned;
    held = begun_held;
    planned = planned_more k.config.page m.frames.owners k.devices t ts b.plan (planned_stay k.config.page k.memory.frames.owners m.frames.owners k.devices ts own_stay g.planned);
    fitting = fitting_more k.devices t ts b.device g.fitting;
    posted = begun_posted n t.dir refl;
    sending = sending_more k.devices t ts g.sending;
    receiving = receiving_more k.devices t ts (unmoved t.phase t.dir n.phase) g.receiving;
    arrived = arrived_more k.devices k.pools t ts n.unbuffered (unready t.phase t.dir n.phase) g.arrived;
  }

  lent_kept : (f : ℕ) → is_lent (counts_at k.memory.frames f) ≡ true → KeepsOwner (owner_at k.memory.frames f) (owner_at m.frames f)
  lent_kept f lent = ⊎_elim
      (λ (same : owner_at m.frames f ≡ owner_at k.memory.frames f). record { owner = inl same; unfreed = λ free. let unlent = (g.sound.lent f).free (sym same ∙ free) in let clash : true ≡ false = sym lent ∙ unlent in cc })
      (λ (left : (is_page (owner_at k.memory.frames f) ≡ true) × (owner_at m.frames f ≡ Nobody)). record { owner = inr left.1; unfreed = λ free. let clash : Nobody ≡ Free = sym left.1 ∙ free in cc })
      (b.lasts f lent).owner

  pub begun_kept : Kept k (with_call k m t)
  begun_kept = record {
    lent = λ n f u w p on still. lent_kept f (transfer_lent k f u g (find_has (has_number n) ts u p.was).0 on);
    pooled = λ d f on still. lent_kept f (pool_lent f d on);
    fresh = λ n f u w p waits on. subst (λ x. has_frame f x ≡ true) (sym (same_one (find (has_number n) (ts ++ t ∷ [])) u w (found_before (has_number n) t ts u p.was) p.is)) on;
  }
