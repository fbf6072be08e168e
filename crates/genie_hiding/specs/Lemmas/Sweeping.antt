-- Frames that a sweep leaves free.
use Rattle.std.proofs.Common.{◌≡◌, ◌≢◌, ℕ, ◌<◌, ◌+◌, suc, zero, Bool, true, false, not, List, [], ◌∷◌, refl, arith, ap, length, set, get_or, sym, ◌∙◌, inl, inr, get_or-set_other, get_or-set_same}
use Rattle.std.specs.Prelude.{◌&&◌, if◌then◌else◌}
use Rattle.genie_base.specs.Lemmas.Places.{num, count_by-set, same_or}
use Rattle.genie_frame.specs.declared.frame.Owner.{Owner}
use Rattle.genie_frame.specs.declared.frame.Owner.TheVariants.{Free, Page, System, Pool, Nobody}
use Rattle.genie_frame.specs.declared.frame.Counts.{Counts}
use Rattle.genie_frame.specs.FrameTable.{counts_at, owner_at, is_lent, is_page, is_free, no_counts}
use Rattle.genie_frame.specs.Frames.{unowned}
use Rattle.genie_object.specs.declared.memory.Memory.{Memory}
use Rattle.genie_object.specs.Objects.{entry_at, names}
use Rattle.genie_object.specs.Lemmas.Lookup.{unowned_not_page}
use Rattle.genie_hiding.specs.Rooms.{can_leave, is_available, count_both, Sweeps}

-- a count over owners and counts, after an owner has changed
pub count_both-set : (q : Owner → Counts → Bool) (os : List Owner) (cs : List Counts) (f : ℕ) (o : Owner) → f < length os → length cs ≡ length os → count_both q (set os f o) cs + num (q (get_or os f Free) (get_or cs f no_counts)) ≡ count_both q os cs + num (q o (get_or cs f no_counts))
count_both-set q [] cs f o l e = absurd (omega arith)
count_both-set q (x ∷ os) [] f o l e = absurd (omega arith)
count_both-set q (x ∷ os) (c ∷ cs) zero o l e = omega arith
count_both-set q (x ∷ os) (c ∷ cs) (suc f) o l e = let h = count_both-set q os cs f o (omega arith) (omega arith) in omega (arith, h)

available_unowned : (c : Counts) (b : Bool) → is_lent c ≡ b → is_available (if b then Nobody else Free) c ≡ not (is_lent c)
available_unowned c true e = ap not (sym e)
available_unowned c false e = refl

not_page : (b : Bool) → is_page (if b then Nobody else Free) ≡ false
not_page true = refl
not_page false = refl

-- a frame that a page has left for good, where no entry comes to name another page
module _ (old new : Memory) (f p : ℕ) (owners : new.frames.owners ≡ set old.frames.owners f (unowned (counts_at old.frames f))) (counts : new.frames.counts ≡ old.frames.counts) (sizes : length old.frames.counts ≡ length old.frames.owners) (there : f < length old.frames.owners) (page : owner_at old.frames f ≡ Page p) (named : (o i q : ℕ) → names q (entry_at new.objects o i) ≡ true → names q (entry_at old.objects o i) ≡ true) where
  at_f : owner_at new.frames f ≡ unowned (counts_at old.frames f)
  at_f = ap (λ os. get_or os f Free) owners ∙ get_or-set_same old.frames.owners f _ Free there

  at_other : (g : ℕ) → g ≢ f → owner_at new.frames g ≡ owner_at old.frames g
  at_other g n = ap (λ os. get_or os g Free) owners ∙ get_or-set_other old.frames.owners f g _ Free n

  pub left_now : can_leave (owner_at new.frames f) (counts_at new.frames f) ≡ false
  left_now = ap (λ b. b && not (is_lent (counts_at new.frames f))) (ap is_page at_f ∙ not_page (is_lent (counts_at old.frames f)))

  pub swept_one : Sweeps old new
  swept_one = record {
    pages = λ g q e. elim (same_or g f) [
      | inl h ↦ absurd (unowned_not_page (counts_at old.frames f) q (sym at_f ∙ ap (owner_at new.frames) (sym h) ∙ e))
      | inr h ↦ sym (at_other g h) ∙ e
    ];
    named = named;
    free =
        let sums = count_by-set is_free old.frames.owners f (unowned (counts_at old.frames f)) Free there in
        let was = ap (λ o. num (is_free o)) page in
        rw owners (omega (arith, sums, was));
    available =
        let sums = count_both-set is_available old.frames.owners old.frames.counts f (unowned (counts_at old.frames f)) there sizes in
        let same : num (is_available (get_or old.frames.owners f Free) (get_or old.frames.counts f no_counts)) ≡ num (is_available (unowned (counts_at old.frames f)) (get_or old.frames.counts f no_counts)) = ap num (ap (λ o. is_available o (counts_at old.frames f)) page ∙ sym (available_unowned (counts_at old.frames f) (is_lent (counts_at old.frames f)) refl)) in
        rw (owners, counts) (omega (arith, sums, same));
  }

leave_owner : (old new : Owner) (c : Counts) → ((p : ℕ) → new ≡ Page p → old ≡ Page p) → can_leave old c ≡ false → can_leave new c ≡ false
leave_owner old Free c h e = refl
leave_owner old (Page p) c h e = ap (λ o. can_leave o c) (sym (h p refl)) ∙ e
leave_owner old (System t) c h e = refl
leave_owner old (Pool d) c h e = refl
leave_owner old Nobody c h e = refl

-- no frame comes to have a page that can leave it
pub leave_kept : (old new : Memory) (f : ℕ) → Sweeps old new → new.frames.counts ≡ old.frames.counts → can_leave (owner_at old.frames f) (counts_at old.frames f) ≡ false → can_leave (owner_at new.frames f) (counts_at new.frames f) ≡ false
leave_kept old new f x k e = ap (λ cs. can_leave (owner_at new.frames f) (get_or cs f no_counts)) k ∙ leave_owner (owner_at old.frames f) (owner_at new.frames f) (counts_at old.frames f) (x.pages f) e

pub sweeps_none : (m : Memory) → Sweeps m m
sweeps_none m = record { pages = λ f p e. e; named = λ o i p e. e; free = omega arith; available = refl }

pub sweeps_on : (a b c : Memory) → Sweeps a b → Sweeps b c → Sweeps a c
sweeps_on a b c x y = record { pages = λ f p e. x.pages f p (y.pages f p e); named = λ o i p e. x.named o i p (y.named o i p e); free = omega (arith, x.free, y.free); available = y.available ∙ x.available }
