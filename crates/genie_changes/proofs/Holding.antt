-- The pages that devices hold, over another memory, and once a region is removed.
use Rattle.std.proofs.Common.{◌≡◌, ◌≢◌, ℕ, List, refl, sym, ap, subst, ◌∙◌, get_or, ⊎_elim}
use Rattle.std.specs.Prelude.{Option, Some, None, find}
use Rattle.std.proofs.lemmas.Bool.{cases_eq}
use Rattle.genie_object.specs.declared.memory.Memory.{Memory}
use Rattle.genie_region.specs.declared.region.Region.{Region}
use Rattle.genie_kernel.specs.declared.transfer.Transfer.{Transfer}
use Rattle.genie_kernel.specs.Calls.{region_number}
use Rattle.genie_kernel.specs.Held.{AreHeldPages, HoldsPages, IsInFrame, region_named, page_of_loan, weak_transfers}
use Rattle.genie_kernel.specs.Loans.{frames_of}
use Rattle.genie_kernel.specs.Regions.{has_id}
use Rattle.genie_changes.specs.Pages.{EachFrame, StaysInFrame, LeavesFrame, FindsOthers}

in_frame_still : (old new : Memory) (o : Option Region) (i f : ℕ) → StaysInFrame old new f → IsInFrame old o i f → IsInFrame new o i f
in_frame_still old new None i f stays h = stays.nobody h
in_frame_still old new (Some r) i f stays h = stays.entries r.object.0 i h

pub held_stay : (page : ℕ) (old new : Memory) (rs : List Region) (ts : List Transfer) → EachFrame (StaysInFrame old new) (weak_transfers ts) → AreHeldPages page old rs ts → AreHeldPages page new rs ts
held_stay page old new rs ts stay h = record {
  page_in = h.page_in;
  frame_of = h.frame_of;
  each = λ i d l.
      let t : Transfer = get_or (weak_transfers ts) i d in
      let was : HoldsPages page old rs h.page_in h.frame_of t = h.each i d l in
      record {
        pages = was.pages;
        frames = was.frames;
        held = λ j m. in_frame_still old new (region_named rs (region_number t)) (page_of_loan page t j).index (get_or (frames_of t.loans) j 0) (stay i d l j m) (was.held j m);
      };
}

module _ (r : Region) (before after : List Region) (old new : Memory) (finds : FindsOthers r before after) where
  other_held : (k i f : ℕ) (o : Option Region) → k ≢ r.id.0 → find (has_id k) before ≡ o → LeavesFrame r old new f → IsInFrame old o i f → IsInFrame new o i f
  other_held k i f None ne e leaves h = leaves.nobody h
  other_held k i f (Some q) ne e leaves h = leaves.entries q.object.0 i (finds.apart k q ne e) h

  held_still : (o : Option ℕ) (i f : ℕ) → LeavesFrame r old new f → IsInFrame old (region_named before o) i f → IsInFrame new (region_named after o) i f
  held_still None i f leaves h = leaves.nobody h
  held_still (Some k) i f leaves h = ⊎_elim
      (λ (same : k ≡ r.id.0).
      let was : find (has_id k) before ≡ Some r = ap (λ j. find (has_id j) before) same ∙ finds.was in
      let gone : find (has_id k) after ≡ None = ap (λ j. find (has_id j) after) same ∙ finds.gone in
      subst (λ o. IsInFrame new o i f) (sym gone) (leaves.left i (subst (λ o. IsInFrame old o i f) was h)))
      (λ other. subst (λ o. IsInFrame new o i f) (sym (finds.others k other)) (other_held k i f (find (has_id k) before) other refl leaves h))
      (cases_eq k r.id.0)

pub held_as_orphans : (page : ℕ) (r : Region) (before after : List Region) (old new : Memory) (ts : List Transfer) → FindsOthers r before after → EachFrame (LeavesFrame r old new) (weak_transfers ts) → AreHeldPages page old before ts → AreHeldPages page new after ts
held_as_orphans page r before after old new ts finds leaves h = record {
  page_in = h.page_in;
  frame_of = h.frame_of;
  each = λ i d l.
      let t : Transfer = get_or (weak_transfers ts) i d in
      let was : HoldsPages page old before h.page_in h.frame_of t = h.each i d l in
      record {
        pages = was.pages;
        frames = was.frames;
        held = λ j m. held_still r before after old new finds (region_number t) (page_of_loan page t j).index (get_or (frames_of t.loans) j 0) (leaves i d l j m) (was.held j m);
      };
}
