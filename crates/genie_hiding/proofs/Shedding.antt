-- What is left where a hidden page was dropped.
use Rattle.std.proofs.Common.{◌≡◌, ◌≢◌, ℕ, ◌<◌, Bool, true, false, not, List, [], refl, arith, ap, length, set, get_or, sym, ◌∙◌, inl, inr, eq-eqb, get_or-set_other, get_or-set_same, length-set}
use Rattle.std.specs.Prelude.{◌==◌, ◌&&◌, Option, Some, None, count_by, if◌then◌else◌}
use Rattle.std.specs.Option.{option_map}
use Rattle.std.proofs.lemmas.Bool.Decides.{eqb_tells}
use Rattle.genie_base.specs.Lemmas.Places.{count_by-set, same_or}
use Rattle.genie_frame.specs.declared.frame.Owner.TheVariants.{Free, Page, Nobody}
use Rattle.genie_frame.specs.declared.frame.FrameId.{FrameId}
use Rattle.genie_frame.specs.FrameTable.{owner_at, counts_at, is_lent}
use Rattle.genie_frame.specs.Frames.{unowned}
use Rattle.genie_store.specs.StoreView.{StoreView}
use Rattle.genie_object.specs.declared.pages.Place.TheVariants.{Frame}
use Rattle.genie_object.specs.declared.pages.PageInfo.{PageInfo}
use Rattle.genie_object.specs.declared.pages.PageId.{PageId}
use Rattle.genie_object.specs.declared.objects.Entry.{Entry}
use Rattle.genie_object.specs.declared.memory.Memory.{Memory}
use Rattle.genie_object.specs.Pages.{page_at, is_there, no_page}
use Rattle.genie_object.specs.Objects.{entry_at, object_at, names, no_entry}
use Rattle.genie_object.specs.Memory.{Seen, seen, see_entry, zeros}
use Rattle.genie_object.specs.Sound.{FitsHidden}
use Rattle.genie_object.specs.Steps.{left_owners, left_slots}
use Rattle.genie_object.specs.Touching.{Touches, is_entry}
use Rattle.genie_object.specs.Lemmas.Lookup.{named, in_range, other_at, page_known}
use Rattle.genie_object.specs.Lemmas.Entries.{naming_there, entry_or}
use Rattle.genie_object.specs.Lemmas.Costing.{dear_same, read_same, write_same}
use Rattle.genie_object.specs.Leaving.{dropped, CanDrop}
use Rattle.genie_hiding.specs.Hidden.{is_hidden, is_visible, is_among, outside}
use Rattle.genie_hiding.specs.Rooms.{MakesRoom, visible_pages}
use Rattle.genie_object.specs.Lemmas.Dropped.{sound_dropped, seen_dropped, keeps_dropped, touches_dropped, page_other, at_here}
use Rattle.genie_hiding.specs.Lemmas.Searching.{count_same, named_hidden}
use Rattle.genie_hiding.specs.Lemmas.Naming.{only_namer, cached_kept, same_visible, times_same, visible_unowned}
use Rattle.genie_hiding.specs.Lemmas.Sweeping.{swept_one}

hidden_entry : (hidden : List ℕ) (s : Seen) (o i : ℕ) (bytes : List ℕ) → is_among o hidden ≡ true → outside hidden (see_entry s o i bytes) ≡ outside hidden s
hidden_entry hidden s o i bytes e = λ k. record { entry_bytes = λ a b. same a b k; kept_bytes = s.kept_bytes } where
  same : (a b : ℕ) → (if is_among a hidden then [] else (if (a == o) && (b == i) then bytes else s.entry_bytes a b)) ≡ (if is_among a hidden then [] else s.entry_bytes a b)
  same a b = elim (eqb_tells a o) [
    | inl h ↦ let here : is_among a hidden ≡ true = ap (λ n. is_among n hidden) h.1 ∙ e in rw here refl
    | inr h ↦ ap (λ v. if is_among a hidden then [] else (if v && (b == i) then bytes else s.entry_bytes a b)) h.0
  ]

-- a hidden page was shed
module _ (hidden : List ℕ) (m : Memory) (o i : ℕ) (f : FrameId) (p : PageId) (x : CanDrop m o i p) (fits : FitsHidden m hidden) (e : is_among o hidden ≡ true) (owned : owner_at m.frames f.0 ≡ Page p.0) where
  abbrev new : Memory
  new = dropped m o i p.0

  placed : (page_at m.pages.pages p.0).place ≡ Frame f
  placed = x.own.sound.placed.of_page f p.0 owned

  owners : new.frames.owners ≡ set m.frames.owners f.0 (unowned (counts_at m.frames f.0))
  owners = ap (left_owners m.frames.owners m.frames.counts) placed

  same_slots : new.slots ≡ m.slots
  same_slots = ap (left_slots m.slots) placed

  there : i < length (object_at m.objects o)
  there = naming_there m.objects p.0 o i (named p (entry_at m.objects o i) x.own.is_page)

  frame_there : f.0 < length m.frames.owners
  frame_there = in_range m.frames.owners f.0 Free (λ n. let bad : Free ≡ Page p.0 = sym n ∙ owned in cc)

  here : is_entry o i o i ≡ true
  here = rw (eq-eqb o o refl, eq-eqb i i refl) refl

  apart : (a b : ℕ) → is_among a hidden ≡ false → is_entry o i a b ≡ false
  apart a b n = elim (eqb_tells a o) [
    | inl h ↦ let bad : true ≡ false = sym e ∙ ap (λ k. is_among k hidden) (sym h.1) ∙ n in cc
    | inr h ↦ ap (λ v. v && (b == i)) h.0
  ]

  touches : Touches (is_entry o i) m new
  touches = touches_dropped m o i p x.own (is_entry o i) here

  quiet : (a j : ℕ) (q : PageId) → (entry_at new.objects a j).page ≡ Some q → is_entry o i a j ≡ false
  quiet a j q w = elim (entry_or m.objects o i no_entry there a j) [
    | inl s ↦ let bad : None ≡ Some q = sym (ap (λ (t : Entry). t.page) (at_here m o i p x.own a j s.0 s.1)) ∙ w in cc
    | inr n ↦ n.0
  ]

  seen_out : (slots : Option (ℕ → List ℕ)) → option_map (outside hidden) (option_map (seen new) slots) ≡ option_map (outside hidden) (option_map (seen m) slots)
  seen_out None = refl
  seen_out (Some slots) = ap Some (ap (outside hidden) (seen_dropped m o i p x slots) ∙ hidden_entry hidden (seen m slots) o i (zeros m.frames) e)

  names_other : (q : ℕ) → q ≢ p.0 → (a b : ℕ) → names q (entry_at new.objects a b) ≡ names q (entry_at m.objects a b)
  names_other q n a b = elim (entry_or m.objects o i no_entry there a b) [
    | inl s ↦
        let was : names q (entry_at m.objects a b) ≡ (p.0 == q) = ap (λ k. names q (entry_at m.objects k b)) s.0 ∙ ap (λ k. names q (entry_at m.objects o k)) s.1 ∙ ap (λ page. elim page as (λ _. Bool) [ None ↦ false | Some r ↦ r.0 == q ]) x.own.is_page in
        ap (names q) (at_here m o i p x.own a b s.0 s.1) ∙ sym (was ∙ other_at p.0 q n)
    | inr w ↦ ap (names q) w.1
  ]

  named_before : (a b q : ℕ) → names q (entry_at new.objects a b) ≡ true → names q (entry_at m.objects a b) ≡ true
  named_before a b q w = elim (entry_or m.objects o i no_entry there a b) [
    | inl s ↦ let bad : false ≡ true = sym (ap (names q) (at_here m o i p x.own a b s.0 s.1)) ∙ w in cc
    | inr n ↦ ap (names q) (sym n.1) ∙ w
  ]

  is_hid : is_hidden m.objects hidden p.0 ≡ true
  is_hid = named_hidden m.objects hidden o i p.0 e (named p (entry_at m.objects o i) x.own.is_page) there

  visible_at : (k : ℕ) → is_visible new.objects hidden (get_or (set m.frames.owners f.0 (unowned (counts_at m.frames f.0))) k Free) ≡ is_visible m.objects hidden (get_or m.frames.owners k Free)
  visible_at k = elim (same_or k f.0) [
    | inl s ↦
        ap (λ n. is_visible new.objects hidden (get_or (set m.frames.owners f.0 (unowned (counts_at m.frames f.0))) n Free)) s
        ∙ ap (is_visible new.objects hidden) (get_or-set_same m.frames.owners f.0 (unowned (counts_at m.frames f.0)) Free frame_there)
        ∙ visible_unowned new.objects hidden (counts_at m.frames f.0)
        ∙ sym (ap (λ n. is_visible m.objects hidden (get_or m.frames.owners n Free)) s ∙ ap (is_visible m.objects hidden) owned ∙ ap not is_hid)
    | inr n ↦
        ap (is_visible new.objects hidden) (get_or-set_other m.frames.owners f.0 k (unowned (counts_at m.frames f.0)) Free n)
        ∙ same_visible new.objects m.objects hidden (get_or m.frames.owners k Free) (λ q w. times_same new.objects m.objects hidden q (keeps_dropped m o i p x).entries (names_other q (λ s.
        let g : FrameId = record { 0 = k } in
        let at : Frame g ≡ Frame f = sym (x.own.sound.placed.of_page g q w) ∙ ap (λ r. (page_at m.pages.pages r).place) s ∙ placed in
        let same : k ≡ f.0 = cc in n same)))
  ]

  same_visibles : visible_pages new hidden ≡ visible_pages m hidden
  same_visibles = count_same (is_visible new.objects hidden) (is_visible m.objects hidden) Free new.frames.owners m.frames.owners (ap length owners ∙ length-set m.frames.owners f.0 _) (λ k. ap (λ os. is_visible new.objects hidden (get_or os k Free)) owners ∙ visible_at k)

  -- an entry outside hidden regions names another page
  other_page : (a b : ℕ) (q : PageId) → is_among a hidden ≡ false → (entry_at m.objects a b).page ≡ Some q → q.0 ≢ p.0
  other_page a b q n w s =
      let same : q ≡ p = λ k. record { 0 = s k } in
      let z = only_namer m p a b o i x.own.sound x.own.alone (w ∙ ap Some same) x.own.is_page in
      let bad : true ≡ false = sym e ∙ ap (λ k. is_among k hidden) (sym z.0) ∙ n in cc

  pub rooms_shed : (v : StoreView) → MakesRoom hidden m new v v
  rooms_shed v = record {
    sound = sound_dropped m o i p x.own;
    sized = λ h. record { count = h.count ∙ sym (ap length same_slots); page = h.page };
    fits = record {
      cached = λ k l. cached_kept (is_entry o i) m new (get_or hidden k 0) x.own.sound touches ((keeps_dropped m o i p x).entries (get_or hidden k 0)) (quiet (get_or hidden k 0)) (fits.cached k l);
      apart = fits.apart;
    };
    seen = seen_out v.slots;
    keeps = keeps_dropped m o i p x;
    counts = refl;
    landed = refl;
    narrows = λ a b n. touches.entries a b (apart a b n);
    shares = λ a b q n w. ap (λ (r : PageInfo). r.shares) (page_other m o i p x.own q.0 (other_page a b q n w));
    reads = λ a b n. read_same m new refl a b ((touches.entries a b (apart a b n)).page) (λ q w. dear_same m.frames.counts (page_at m.pages.pages q.0) (page_at new.pages.pages q.0) (page_other m o i p x.own q.0 (other_page a b q n w)));
    writes = λ a b n. write_same m new refl a b ((touches.entries a b (apart a b n)).page) (λ q w. dear_same m.frames.counts (page_at m.pages.pages q.0) (page_at new.pages.pages q.0) (page_other m o i p x.own q.0 (other_page a b q n w)));
    pages = omega (arith, count_by-set is_there m.pages.pages p.0 no_page no_page (page_known m p.0 (omega (arith, x.own.alone))));
    sweeps = swept_one m new f.0 p.0 owners refl x.own.sound.shaped.counted frame_there owned named_before;
    slots = λ h. omega (arith, h, same_visibles, ap (count_by not) same_slots);
  }

  pub freed : is_lent (counts_at m.frames f.0) ≡ false → owner_at new.frames f.0 ≡ Free
  freed l = ap (λ os. get_or os f.0 Free) owners ∙ get_or-set_same m.frames.owners f.0 (unowned (counts_at m.frames f.0)) Free frame_there ∙ ap (λ b. if b then Nobody else Free) l
