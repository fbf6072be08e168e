-- No entry costs more once a page has come into a frame.
use Rattle.std.proofs.Common.{◌≡◌, ℕ, ◌<◌, Bool, true, false, List, refl, arith, ap, rules, sym, ◌∙◌}
use Rattle.std.specs.Prelude.{◌||◌, Option, Some, None, nat_lt}
use Rattle.genie_frame.specs.declared.frame.Counts.{Counts}
use Rattle.genie_frame.specs.declared.frame.FrameId.{FrameId}
use Rattle.genie_object.specs.declared.pages.Place.TheVariants.{Frame, Slot}
use Rattle.genie_object.specs.declared.pages.PageInfo.{PageInfo}
use Rattle.genie_object.specs.declared.pages.PageId.{PageId}
use Rattle.genie_object.specs.declared.memory.Memory.{Memory}
use Rattle.genie_object.specs.Pages.{page_at}
use Rattle.genie_object.specs.Objects.{entry_at}
use Rattle.genie_object.specs.Sound.{strong_at}
use Rattle.genie_object.specs.Costs.{is_zero, is_fixed, is_strong_in, is_untouched, must_copy, CostsNoMore}

-- to read or write the page costs no more than before
pub record IsNoDearer (counts : List Counts) (old new : PageInfo) : Type 0 where
  pub read : is_zero old.place ≡ false → is_zero new.place ≡ false
  pub write : is_fixed counts old ≡ false → is_fixed counts new ≡ false

mid_false : (a b c : Bool) → (a || b || c) ≡ false → b ≡ false
mid_false a b c e = grind (rules, e)

none_strong : (n : ℕ) → n ≡ 0 → nat_lt 0 n ≡ false
none_strong n e = ap (nat_lt 0) e

pub dear_in_frame : (counts : List Counts) (q : PageInfo) (g : FrameId) → strong_at counts g.0 ≡ 0 → IsNoDearer counts q (record q { place = Frame g })
dear_in_frame counts q g none = record {
  read = λ e. refl;
  write = λ e.
      let one = mid_false (is_zero q.place) (nat_lt 1 q.shares) (is_strong_in counts q.place) e in
      let quiet = none_strong (strong_at counts g.0) none in
      (λ k. one k || quiet k);
}

pub dear_same : (counts : List Counts) (old new : PageInfo) → new ≡ old → IsNoDearer counts old new
dear_same counts old new e = record { read = λ h. ap (λ (q : PageInfo). is_zero q.place) e ∙ h; write = λ h. ap (is_fixed counts) e ∙ h }

-- a page of several entries can't be written in place
pub dear_shared : (counts : List Counts) (old new : PageInfo) → 1 < old.shares → new.place ≡ old.place → IsNoDearer counts old new
dear_shared counts old new l e = record {
  read = λ h. ap is_zero e ∙ h;
  write = λ h.
      let many : nat_lt 1 old.shares ≡ true = grind (arith, rules, l) in
      let bad : true ≡ false = sym many ∙ mid_false (is_zero old.place) (nat_lt 1 old.shares) (is_strong_in counts old.place) h in cc;
}

read_page : (old new : Memory) (page : Option PageId) → ((r : PageId) → page ≡ Some r → IsNoDearer old.frames.counts (page_at old.pages.pages r.0) (page_at new.pages.pages r.0)) → elim page as (λ _. Bool) [ None ↦ true | Some p ↦ is_zero (page_at old.pages.pages p.0).place ] ≡ false → elim page as (λ _. Bool) [ None ↦ true | Some p ↦ is_zero (page_at new.pages.pages p.0).place ] ≡ false
read_page old new None h e = e
read_page old new (Some r) h e = (h r refl).read e

write_page : (old new : Memory) (page : Option PageId) → new.frames.counts ≡ old.frames.counts → ((r : PageId) → page ≡ Some r → IsNoDearer old.frames.counts (page_at old.pages.pages r.0) (page_at new.pages.pages r.0)) → elim page as (λ _. Bool) [ None ↦ true | Some p ↦ is_fixed old.frames.counts (page_at old.pages.pages p.0) ] ≡ false → elim page as (λ _. Bool) [ None ↦ true | Some p ↦ is_fixed new.frames.counts (page_at new.pages.pages p.0) ] ≡ false
write_page old new None c h e = e
write_page old new (Some r) c h e = ap (λ cs. is_fixed cs (page_at new.pages.pages r.0)) c ∙ (h r refl).write e

-- one entry that names the page that it named
module _ (old new : Memory) (counts : new.frames.counts ≡ old.frames.counts) (a b : ℕ) (same : (entry_at new.objects a b).page ≡ (entry_at old.objects a b).page) (h : (r : PageId) → (entry_at old.objects a b).page ≡ Some r → IsNoDearer old.frames.counts (page_at old.pages.pages r.0) (page_at new.pages.pages r.0)) where
  pub read_same : is_untouched old a b ≡ false → is_untouched new a b ≡ false
  read_same e = ap (λ page. elim page as (λ _. Bool) [ None ↦ true | Some p ↦ is_zero (page_at new.pages.pages p.0).place ]) same ∙ read_page old new (entry_at old.objects a b).page h e

  pub write_same : must_copy old a b ≡ false → must_copy new a b ≡ false
  write_same e = ap (λ page. elim page as (λ _. Bool) [ None ↦ true | Some p ↦ is_fixed new.frames.counts (page_at new.pages.pages p.0) ]) same ∙ write_page old new (entry_at old.objects a b).page counts h e

pub costs_same : (old new : Memory) → new.frames.counts ≡ old.frames.counts → ((a b : ℕ) → (entry_at new.objects a b).page ≡ (entry_at old.objects a b).page) → ((r : ℕ) → IsNoDearer old.frames.counts (page_at old.pages.pages r) (page_at new.pages.pages r)) → CostsNoMore old new
costs_same old new c same h = record {
  read = λ a b. read_same old new c a b (same a b) (λ r e. h r.0);
  write = λ a b. write_same old new c a b (same a b) (λ r e. h r.0);
}

pub dear_in_slot : (counts : List Counts) (q : PageInfo) (s : ℕ) → IsNoDearer counts q (record q { place = Slot s })
dear_in_slot counts q s = record {
  read = λ e. refl;
  write = λ e. let one = mid_false (is_zero q.place) (nat_lt 1 q.shares) (is_strong_in counts q.place) e in (λ k. one k || false);
}
