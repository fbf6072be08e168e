-- Which entries name a page, and which pages are hidden.
use Rattle.std.proofs.Common.{◌≡◌, ◌≢◌, ℕ, ◌<◌, Bool, true, false, not, List, [], refl, arith, ap, rules, length, get_or, sym, ◌∙◌, subst}
use Rattle.std.specs.Prelude.{◌==◌, Option, Some, None, count_by, nat_lt, if◌then◌else◌}
use Rattle.genie_frame.specs.declared.frame.Owner.{Owner}
use Rattle.genie_frame.specs.declared.frame.Owner.TheVariants.{Free, Page, System, Pool, Nobody}
use Rattle.genie_frame.specs.declared.frame.Counts.{Counts}
use Rattle.genie_frame.specs.declared.frame.FrameId.{FrameId}
use Rattle.genie_frame.specs.FrameTable.{counts_at, is_lent, is_held}
use Rattle.genie_frame.specs.Frames.{unowned}
use Rattle.genie_object.specs.declared.pages.Place.TheVariants.{Frame}
use Rattle.genie_object.specs.declared.pages.PageInfo.{PageInfo}
use Rattle.genie_object.specs.declared.pages.PageId.{PageId}
use Rattle.genie_object.specs.declared.objects.Entry.{Entry}
use Rattle.genie_object.specs.declared.memory.Memory.{Memory}
use Rattle.genie_object.specs.Pages.{page_at}
use Rattle.genie_object.specs.Objects.{entry_at, object_at, names, no_entry}
use Rattle.genie_object.specs.Sound.{IsSound, IsCached, FitsHidden}
use Rattle.genie_object.specs.Lemmas.Named.{counted_once}
use Rattle.genie_object.specs.Lemmas.Showing.{named_within}
use Rattle.genie_object.specs.Touching.{Touches, IsOutside}
use Rattle.genie_object.specs.Lemmas.Lookup.{named}
use Rattle.genie_object.specs.Lemmas.Entries.{naming_there}
use Rattle.genie_object.specs.Leaving.{CanDrop}
use Rattle.genie_hiding.specs.Hidden.{is_hidden, is_visible, has_hidden, is_among, times_hidden}
use Rattle.genie_hiding.specs.Rooms.{Sweeps}
use Rattle.genie_hiding.specs.Lemmas.Searching.{among, among_found, sum_same, count_same, named_hidden, hidden_by}

-- an entry names the page that the test says
pub names_page : (p : PageId) (e : Entry) → names p.0 e ≡ true → e.page ≡ Some p
names_page p e h = page_is e.page h where
  page_is : (page : Option PageId) → elim page as (λ _. Bool) [ None ↦ false | Some q ↦ q.0 == p.0 ] ≡ true → page ≡ Some p
  page_is None h = cc
  page_is (Some q) h = let s : q.0 ≡ p.0 = grind (arith, rules, h) in ap Some (λ k. record { 0 = s k })

-- one entry alone names a page with one holder
pub only_namer : (m : Memory) (p : PageId) (a b o i : ℕ) → IsSound m → (page_at m.pages.pages p.0).shares ≡ 1 → (entry_at m.objects a b).page ≡ Some p → (entry_at m.objects o i).page ≡ Some p → (a ≡ o) × (b ≡ i)
only_namer m p a b o i s one ea eo =
    let here = named_within m.objects o i p eo in
    let there = named_within m.objects a b p ea in
    counted_once (names p.0) no_entry m.objects a b o i there.0 there.1 here.0 here.1 (named p (entry_at m.objects a b) ea) (named p (entry_at m.objects o i) eo) (sym (s.shared.counted p.0) ∙ one)

-- a hidden region's object still fits, where the call doesn't speak of what its entries name afterwards
pub cached_kept : (spoken : ℕ → ℕ → Bool) (old new : Memory) (o : ℕ) → IsSound old → Touches spoken old new → length (object_at new.objects o) ≡ length (object_at old.objects o) → ((i : ℕ) (q : PageId) → (entry_at new.objects o i).page ≡ Some q → spoken o i ≡ false) → IsCached old o → IsCached new o
cached_kept spoken old new o s t k quiet c = record {
  there = omega (arith, c.there, k);
  own = λ i q e. ap (λ (r : PageInfo). r.shares) (same i q e) ∙ c.own i q (was i q e);
  frame = λ i q e. c.frame i q (was i q e);
  in_frame = λ i q e. ap (λ (r : PageInfo). r.place) (same i q e) ∙ c.in_frame i q (was i q e);
  unheld = λ i q e. ap is_held (t.counts q.0 (c.frame i q (was i q e)) (out i q e) (c.in_frame i q (was i q e))) ∙ c.unheld i q (was i q e);
} where
  was : (i : ℕ) (q : PageId) → (entry_at new.objects o i).page ≡ Some q → (entry_at old.objects o i).page ≡ Some q
  was i q e = sym ((t.entries o i (quiet i q e)).page) ∙ e

  out : (i : ℕ) (q : PageId) → (entry_at new.objects o i).page ≡ Some q → IsOutside spoken old q.0
  out i q e = record {
    there = omega (arith, c.own i q (was i q e));
    named = λ a b n. let z = only_namer old q a b o i s (c.own i q (was i q e)) (names_page q (entry_at old.objects a b) n) (was i q e) in ap (λ x. spoken x b) z.0 ∙ ap (spoken o) z.1 ∙ quiet i q e;
  }

  same : (i : ℕ) (q : PageId) → (e : (entry_at new.objects o i).page ≡ Some q) → page_at new.pages.pages q.0 ≡ page_at old.pages.pages q.0
  same i q e = t.pages q.0 (out i q e)

pub same_visible : (a b : List (List Entry)) (hidden : List ℕ) (owner : Owner) → ((p : ℕ) → owner ≡ Page p → times_hidden a hidden p ≡ times_hidden b hidden p) → is_visible a hidden owner ≡ is_visible b hidden owner
same_visible a b hidden Free h = refl
same_visible a b hidden (Page p) h = ap (λ n. not (nat_lt 0 n)) (h p refl)
same_visible a b hidden (System t) h = refl
same_visible a b hidden (Pool d) h = refl
same_visible a b hidden Nobody h = refl

pub times_same : (a b : List (List Entry)) (hidden : List ℕ) (p : ℕ) → ((o : ℕ) → length (object_at a o) ≡ length (object_at b o)) → ((o i : ℕ) → names p (entry_at a o i) ≡ names p (entry_at b o i)) → times_hidden a hidden p ≡ times_hidden b hidden p
times_same a b hidden p l n = sum_same (λ o. count_by (names p) (object_at a o)) (λ o. count_by (names p) (object_at b o)) hidden (λ o. count_same (names p) (names p) no_entry (object_at a o) (object_at b o) (l o) (n o))

pub visible_unowned : (objects : List (List Entry)) (hidden : List ℕ) (c : Counts) → is_visible objects hidden (unowned c) ≡ false
visible_unowned objects hidden c = elim (is_lent c) as (λ b. is_visible objects hidden (if b then Nobody else Free) ≡ false) [ true ↦ refl | false ↦ refl ]

pub names_same : (p : ℕ) (a b : Entry) → a.page ≡ b.page → names p a ≡ names p b
names_same p a b e = ap (λ page. elim page as (λ _. Bool) [ None ↦ false | Some r ↦ r.0 == p ]) e

pub not_true : (b : Bool) → (b ≡ true → true ≡ false) → b ≡ false
not_true true h = h refl
not_true false h = refl

-- a hidden region's object
pub cached_at : (hidden : List ℕ) (m : Memory) (o : ℕ) → FitsHidden m hidden → is_among o hidden ≡ true → IsCached m o
cached_at hidden m o fits e = let z = among o hidden e in subst (IsCached m) z.is (fits.cached z.place z.there)

pub can_drop : (hidden : List ℕ) (m : Memory) (o i : ℕ) (p : PageId) → IsSound m → FitsHidden m hidden → is_among o hidden ≡ true → (entry_at m.objects o i).page ≡ Some p → CanDrop m o i p
can_drop hidden m o i p s fits e is = record { own = record { sound = s; is_page = is; alone = c.own i p is }; unheld = unheld } where
  c : IsCached m o
  c = cached_at hidden m o fits e

  unheld : (g : FrameId) → (page_at m.pages.pages p.0).place ≡ Frame g → is_held (counts_at m.frames g.0) ≡ false
  unheld g w = let at : Frame (c.frame i p is) ≡ Frame g = sym (c.in_frame i p is) ∙ w in let same : g.0 ≡ (c.frame i p is).0 = cc in ap (λ k. is_held (counts_at m.frames k)) same ∙ c.unheld i p is

-- a region that is kept has entries
pub kept_there : (hidden : List ℕ) (m : Memory) (k : ℕ) → FitsHidden m hidden → k < length hidden → object_at m.objects (get_or hidden k 0) ≢ []
kept_there hidden m k f l e = let c = f.cached k l in absurd (omega (arith, c.there, ap length e))

-- a page that is hidden was so before, where no entry came to name another page
pub hidden_before : (old new : Memory) (hidden : List ℕ) (p : ℕ) → Sweeps old new → is_hidden new.objects hidden p ≡ true → is_hidden old.objects hidden p ≡ true
hidden_before old new hidden p x e =
    let z = hidden_by new.objects hidden p e in
    let n = x.named (get_or hidden z.place 0) z.index p z.named in
    named_hidden old.objects hidden (get_or hidden z.place 0) z.index p (among_found hidden z.place z.there) n (naming_there old.objects p (get_or hidden z.place 0) z.index n)

-- an owner that has a hidden page
pub record HasHidden (objects : List (List Entry)) (hidden : List ℕ) (owner : Owner) : Type 0 where
  pub page : ℕ
  pub is_page : owner ≡ Page page
  pub is_hid : is_hidden objects hidden page ≡ true

pub hidden_page : (objects : List (List Entry)) (hidden : List ℕ) (owner : Owner) → has_hidden objects hidden owner ≡ true → HasHidden objects hidden owner
hidden_page objects hidden Free e = cc
hidden_page objects hidden (Page p) e = record { page = p; is_page = refl; is_hid = e }
hidden_page objects hidden (System t) e = cc
hidden_page objects hidden (Pool d) e = cc
hidden_page objects hidden Nobody e = cc

-- hidden regions fit the memory after a call that doesn't speak of their entries
pub fits_kept : (spoken : ℕ → ℕ → Bool) (old new : Memory) (hidden : List ℕ) → IsSound old → Touches spoken old new → ((o : ℕ) → length (object_at new.objects o) ≡ length (object_at old.objects o)) → ((o i : ℕ) → is_among o hidden ≡ true → spoken o i ≡ false) → FitsHidden old hidden → FitsHidden new hidden
fits_kept spoken old new hidden s t size quiet f = record { cached = λ k l. cached_kept spoken old new (get_or hidden k 0) s t (size (get_or hidden k 0)) (λ i q e. quiet (get_or hidden k 0) i (among_found hidden k l)) (f.cached k l); apart = f.apart }
