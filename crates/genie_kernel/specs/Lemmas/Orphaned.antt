-- The pages that devices hold, once a region is removed.
use Rattle.std.proofs.Common.{◌≡◌, ◌≢◌, ℕ, true, List, refl, sym, ap, subst, ◌∙◌, get_or, ⊎_elim}
use Rattle.std.specs.Prelude.{Option, Some, None, find}
use Rattle.std.proofs.lemmas.Bool.{cases_eq}
use Rattle.genie_frame.specs.FrameTable.{counts_at, is_held}
use Rattle.genie_object.specs.declared.memory.Memory.{Memory}
use Rattle.genie_region.specs.declared.region.Region.{Region}
use Rattle.genie_kernel.specs.declared.transfer.Transfer.{Transfer}
use Rattle.genie_kernel.specs.Calls.{region_number}
use Rattle.genie_kernel.specs.Held.{AreHeldPages, HoldsPages, IsInFrame, region_named, page_of_loan, weak_transfers}
use Rattle.genie_kernel.specs.Loans.{frames_of}
use Rattle.genie_kernel.specs.Regions.{has_id}
use Rattle.genie_kernel.specs.Holding.{RegionLeaves, AreHeldFrames}

module _ (r : Region) (before after : List Region) (old new : Memory) (leaves : RegionLeaves r before after old new) where
  other_held : (k i f : ℕ) (o : Option Region) → k ≢ r.id.0 → find (has_id k) before ≡ o → is_held (counts_at old.frames f) ≡ true → IsInFrame old o i f → IsInFrame new o i f
  other_held k i f None ne e held h = leaves.nobody f held h
  other_held k i f (Some q) ne e held h = leaves.entries q.object.0 i f (leaves.apart k q ne e) held h

  pub held_still : (o : Option ℕ) (i f : ℕ) → is_held (counts_at old.frames f) ≡ true → IsInFrame old (region_named before o) i f → IsInFrame new (region_named after o) i f
  held_still None i f held h = leaves.nobody f held h
  held_still (Some k) i f held h = ⊎_elim
      (λ (same : k ≡ r.id.0).
      let was : find (has_id k) before ≡ Some r = ap (λ j. find (has_id j) before) same ∙ leaves.was in
      let gone : find (has_id k) after ≡ None = ap (λ j. find (has_id j) after) same ∙ leaves.gone in
      subst (λ o. IsInFrame new o i f) (sym gone) (leaves.left i f held (subst (λ o. IsInFrame old o i f) was h)))
      (λ other. subst (λ o. IsInFrame new o i f) (sym (leaves.others k other)) (other_held k i f (find (has_id k) before) other refl held h))
      (cases_eq k r.id.0)

pub held_as_orphans : (page : ℕ) (r : Region) (before after : List Region) (old new : Memory) (ts : List Transfer) → RegionLeaves r before after old new → AreHeldFrames old (weak_transfers ts) → AreHeldPages page old before ts → AreHeldPages page new after ts
held_as_orphans page r before after old new ts leaves held h = record {
  page_in = h.page_in;
  frame_of = h.frame_of;
  each = λ i d l.
      let t = get_or (weak_transfers ts) i d in
      let was : HoldsPages page old before h.page_in h.frame_of t = h.each i d l in
      record {
        pages = was.pages;
        frames = was.frames;
        held = λ j m. held_still r before after old new leaves (region_number t) (page_of_loan page t j).index (get_or (frames_of t.loans) j 0) (held i d l j m) (was.held j m);
      };
}
