-- The pools go, one after the other.
use Rattle.std.proofs.Common.{◌≡◌, ◌≢◌, ◌⊎◌, ℕ, ◌+◌, ◌<◌, ◌≤◌, zero, suc, true, false, List, [], ◌∷◌, refl, sym, ap, subst, arith, ◌∙◌, ⊎_elim, inl, inr, length, get_or, set}
use Rattle.std.specs.Prelude.{Option, Some, None, IfSome, sum_by}
use Rattle.std.proofs.lemmas.List.{length-set, get_or-set_same, get_or-set_other}
use Rattle.std.proofs.lemmas.List.Sums.{sum_by-cons}
use Rattle.genie_frame.specs.declared.frame.Counts.{Counts}
use Rattle.genie_frame.specs.declared.frame.Owner.{Owner}
use Rattle.genie_frame.specs.declared.frame.Owner.TheVariants.{Free, Page, System, Pool, Nobody}
use Rattle.genie_frame.specs.FrameTable.{owner_at, counts_at, no_counts, is_lent, is_system}
use Rattle.genie_input.specs.Pools.{ArePooled, PoolState}
use Rattle.genie_object.specs.declared.memory.Memory.{Memory}
use Rattle.genie_object.specs.Sound.{IsSound}
use Rattle.genie_plan.specs.Plans.{input_frames, times}
use Rattle.genie_model.specs.Tables.{entry}
use Rattle.genie_kernel.specs.Booting.{frames_of_pool}
use Rattle.genie_kernel.specs.Counted.{AreCounted, pool_on}
use Rattle.genie_kernel.specs.Owners.{AreOwned}
use Rattle.genie_calls.specs.Closing.{IsFreeOrPaged, LendsPools, PoolEnds}

is_zero : (n : ℕ) → (n ≡ 0) ⊎ (0 < n)
is_zero zero = inl refl
is_zero (suc n) = inr (omega arith)

same_place : (a b : ℕ) → (a ≡ b) ⊎ (a ≢ b)
same_place zero zero = inl refl
same_place zero (suc b) = inr (λ e. absurd (omega (arith, e)))
same_place (suc a) zero = inr (λ e. absurd (omega (arith, e)))
same_place (suc a) (suc b) = ⊎_elim (λ e. inl (ap suc e)) (λ ne. inr (λ e. ne (omega (arith, e)))) (same_place a b)

times_of : (f : ℕ) (pool : Option PoolState) → pool_on f pool ≡ times (frames_of_pool pool) f
times_of f None = refl
times_of f (Some p) = refl

abbrev NoPoolHas : ℕ → List (Option PoolState) → Type 0
NoPoolHas f pools = (d : ℕ) → pool_on f (entry pools d) ≡ 0

-- a frame that no pool has is lent for none, and one that a single pool has is lent for that
none_sum : (f : ℕ) (ps : List (Option PoolState)) → NoPoolHas f ps → sum_by (pool_on f) ps ≡ 0
none_sum f [] h = refl
none_sum f (p ∷ ps) h = let here = h 0 in omega (arith, sum_by-cons (pool_on f) p ps, here, none_sum f ps (λ d. h (suc d)))

one_sum : (f d : ℕ) (ps : List (Option PoolState)) → ((e : ℕ) → e ≢ d → pool_on f (entry ps e) ≡ 0) → sum_by (pool_on f) ps ≡ pool_on f (entry ps d)
one_sum f d [] h = refl
one_sum f zero (p ∷ ps) h = omega (arith, sum_by-cons (pool_on f) p ps, none_sum f ps (λ e. h (suc e) (λ same. absurd (omega (arith, same)))))
one_sum f (suc d) (p ∷ ps) h =
    let here = h 0 (λ same. absurd (omega (arith, same))) in
    omega (arith, sum_by-cons (pool_on f) p ps, here, one_sum f d ps (λ e ne. h (suc e) (λ same. ne (omega (arith, same)))))

same_pool : (d e : ℕ) → Pool d ≡ Pool e → d ≡ e
same_pool d e h = cc

-- once no transfer is pending
module _ (m : Memory) (pools : List (Option PoolState)) (sound : IsSound m) (places : length pools ≡ 8) (counted : AreCounted m.frames.counts [] pools) (owned : AreOwned m.frames.owners [] pools) where
  others_zero : (f d e : ℕ) → 0 < pool_on f (entry pools d) → e ≢ d → pool_on f (entry pools e) ≡ 0
  others_zero f d e some ne = ⊎_elim (λ z. z) (λ more. absurd (ne (same_pool e d (sym (owned.pool_frames f e more) ∙ owned.pool_frames f d some)))) (is_zero (pool_on f (entry pools e)))

  one_of : (f d : ℕ) → 0 < pool_on f (entry pools d) → pool_on f (entry pools d) ≡ 1
  one_of f d some = owned.pooled f d (owned.pool_frames f d some)

  at_most : (f d : ℕ) → pool_on f (entry pools d) ≤ 1
  at_most f d = ⊎_elim (λ z. omega (arith, z)) (λ some. omega (arith, one_of f d some)) (is_zero (pool_on f (entry pools d)))

  never_system : (f : ℕ) → NoPoolHas f pools → (o : Owner) → owner_at m.frames f ≡ o → is_system o ≡ false
  never_system f none Free e = refl
  never_system f none (Page p) e = refl
  never_system f none (System k) e = let h = owned.system f k e in absurd (cc)
  never_system f none (Pool d) e = let one = owned.pooled f d e in let z = none d in absurd (omega (arith, one, z))
  never_system f none Nobody e = refl

  abbrev inputs : ℕ → Counts
  inputs n = record { strong = 0; weak = 0; input = n; wires = 0 }

  pub lends_pools : LendsPools 0 m pools
  lends_pools = record {
    sound = sound;
    places = places;
    ended = λ d l. absurd (omega (arith, l));
    owned = owned.pool_frames;
    lent = λ f d some. counted f ∙ ap inputs (omega (arith, one_sum f d pools (λ e ne. others_zero f d e some ne), one_of f d some));
    once = at_most;
    unlent = λ f none. counted f ∙ ap inputs (omega (arith, none_sum f pools none));
    unowned = λ f none. never_system f none (owner_at m.frames f) refl;
  }

-- the frames of a pool are its device's, and each carries its loan
pub pooled_at : (n d : ℕ) (m : Memory) (pools : List (Option PoolState)) (o : Option PoolState) → LendsPools n m pools → entry pools d ≡ o → IfSome o (λ (p : PoolState). ArePooled m.frames d (input_frames p.loans))
pooled_at n d m pools None l e = tt
pooled_at n d m pools (Some p) l e = record {
  owned = λ f some. l.owned f d (subst (λ q. 0 < pool_on f q) (sym e) some);
  counts = λ f some. l.lent f d (subst (λ q. 0 < pool_on f q) (sym e) some);
  apart = λ f. subst (λ q. pool_on f q ≤ 1) e (l.once f d);
}

module _ (n : ℕ) (old new : Memory) (pools : List (Option PoolState)) (few : n < 8) (l : LendsPools n old pools) (ends : PoolEnds (entry pools n) old new) where
  abbrev now : List (Option PoolState)
  now = set pools n None

  here : entry now n ≡ None
  here = let places = l.places in get_or-set_same pools n None None (omega (arith, few, places))

  other : (d : ℕ) → d ≢ n → entry now d ≡ entry pools d
  other d ne = get_or-set_other pools n d None None ne

  abbrev gone : ℕ → ℕ
  gone f = times (frames_of_pool (entry pools n)) f

  -- what another pool still has isn't of the pool that goes
  not_gone : (f d : ℕ) → d ≢ n → 0 < pool_on f (entry pools d) → gone f ≡ 0
  not_gone f d ne some = ⊎_elim (λ z. z)
      (λ more. let of_n = l.owned f n (subst (λ j. 0 < j) (sym (times_of f (entry pools n))) more) in absurd (ne (same_pool d n (sym (l.owned f d some) ∙ of_n))))
      (is_zero (gone f))

  still : (f d : ℕ) → 0 < pool_on f (entry now d) → (d ≢ n) × (0 < pool_on f (entry pools d))
  still f d some = ⊎_elim
      (λ (same : d ≡ n). let none : 0 < 0 = subst (λ o. 0 < pool_on f o) (ap (λ j. entry now j) same ∙ here) some in absurd (omega (arith, none)))
      (λ (ne : d ≢ n). (ne, subst (λ o. 0 < pool_on f o) (other d ne) some))
      (same_place d n)

  none_before : (f : ℕ) → NoPoolHas f now → gone f ≡ 0 → NoPoolHas f pools
  none_before f none z d = ⊎_elim
      (λ (same : d ≡ n). ap (λ j. pool_on f (entry pools j)) same ∙ times_of f (entry pools n) ∙ z)
      (λ (ne : d ≢ n). ap (pool_on f) (sym (other d ne)) ∙ none d)
      (same_place d n)

  ended_now : (d : ℕ) → d < n + 1 → entry now d ≡ None
  ended_now d less = ⊎_elim (λ (same : d ≡ n). ap (λ j. entry now j) same ∙ here) (λ (ne : d ≢ n). other d ne ∙ l.ended d (let apart : d < n = before d less ne in apart)) (same_place d n) where
    before : (d : ℕ) → d < n + 1 → d ≢ n → d < n
    before d less ne = grind (arith, less, ne)

  once_now : (f d : ℕ) → pool_on f (entry now d) ≤ 1
  once_now f d = ⊎_elim (λ z. omega (arith, z)) (λ some. let s = still f d some in subst (λ o. pool_on f o ≤ 1) (sym (other d s.0)) (l.once f d)) (is_zero (pool_on f (entry now d)))

  pub pool_less : LendsPools (n + 1) new now
  pool_less = record {
    sound = ends.sound;
    places = length-set pools n None ∙ l.places;
    ended = ended_now;
    owned = λ f d some. let s = still f d some in ends.freed.others f (not_gone f d s.0 s.1) ∙ l.owned f d s.1;
    lent = λ f d some. let s = still f d some in ends.freed.counts f (not_gone f d s.0 s.1) ∙ l.lent f d s.1;
    once = once_now;
    unlent = λ f none. ⊎_elim (λ z. ends.freed.counts f z ∙ l.unlent f (none_before f none z)) (λ more. ends.freed.none f more) (is_zero (gone f));
    unowned = λ f none. ⊎_elim (λ z. ap is_system (ends.freed.others f z) ∙ l.unowned f (none_before f none z)) (λ more. ap is_system (ends.freed.owned f more)) (is_zero (gone f));
  }

-- within the list the place past its end is no matter
entry_at : (ps : List (Option PoolState)) (d : ℕ) (o : Option PoolState) → d < length ps → get_or ps d o ≡ entry ps d
entry_at [] d o l = absurd (omega (arith, l))
entry_at (p ∷ ps) zero o l = refl
entry_at (p ∷ ps) (suc d) o l = entry_at ps d o (omega (arith, l))

pub at_place : (ps : List (Option PoolState)) (d : ℕ) (o : Option PoolState) (m : Memory) (n : ℕ) → d < 8 → LendsPools n m ps → get_or ps d o ≡ entry ps d
at_place ps d o m n few l = let places = l.places in entry_at ps d o (omega (arith, few, places))

pub no_pool_ends : (m : Memory) → IsSound m → PoolEnds None m m
no_pool_ends m sound = record {
  sound = sound;
  freed = record { owned = λ f l. absurd (omega (arith, l)); none = λ f l. absurd (omega (arith, l)); others = λ f z. refl; counts = λ f z. refl; page = refl; bytes = refl; meters = refl; landed = refl; size = refl };
  keeps = record { only = refl; entries = λ slots. refl; meters = refl; landed = refl };
}

past_end : (ps : List (Option PoolState)) (d : ℕ) → length ps ≤ d → entry ps d ≡ None
past_end [] d l = refl
past_end (p ∷ ps) zero l = absurd (omega (arith, l))
past_end (p ∷ ps) (suc d) l = past_end ps d (omega (arith, l))

-- once all are gone
module _ (m : Memory) (pools : List (Option PoolState)) (l : LendsPools 8 m pools) where
  pub all_none : (d : ℕ) → entry pools d ≡ None
  all_none d = ⊎_elim (λ (less : d < 8). l.ended d less) (λ (most : 8 ≤ d). let places = l.places in past_end pools d (omega (arith, places, most))) (below d) where
    below : (d : ℕ) → (d < 8) ⊎ (8 ≤ d)
    below d = grind arith

  pub all_unlent : (f : ℕ) → counts_at m.frames f ≡ no_counts
  all_unlent f = l.unlent f (λ d. ap (pool_on f) (all_none d))

  free_or_paged : (f : ℕ) (o : Owner) → owner_at m.frames f ≡ o → IsFreeOrPaged o
  free_or_paged f Free e = inl refl
  free_or_paged f (Page p) e = inr (p, refl)
  free_or_paged f (System k) e = let never = sym (ap is_system e) ∙ l.unowned f (λ d. ap (pool_on f) (all_none d)) in absurd (cc)
  free_or_paged f (Pool d) e = let never = sym (ap is_system e) ∙ l.unowned f (λ d. ap (pool_on f) (all_none d)) in absurd (cc)
  free_or_paged f Nobody e = let never : true ≡ false = sym ((l.sound.lent f).nobody e) ∙ ap is_lent (all_unlent f) in absurd (cc)

  pub all_free_or_paged : (f : ℕ) → IsFreeOrPaged (owner_at m.frames f)
  all_free_or_paged f = free_or_paged f (owner_at m.frames f) refl
