-- Frames that were marked.
use Rattle.std.proofs.Common.{◌≡◌, ℕ, ◌<◌, ◌≤◌, ◌+◌, Bool, true, false, List, refl, arith, ap, length, get_or, set, sym, ◌∙◌, inl, inr, subst, get_or-set_same, get_or-set_other}
use Rattle.std.specs.Prelude.{◌⊎◌, Option, Some, None}
use Rattle.genie_base.specs.Lemmas.Places.{same_or}
use Rattle.genie_frame.specs.declared.frame.Owner.TheVariants.{Page}
use Rattle.genie_frame.specs.declared.frame.FrameId.{FrameId}
use Rattle.genie_frame.specs.FrameTable.{owner_at}
use Rattle.genie_object.specs.declared.pages.PageId.{PageId}
use Rattle.genie_object.specs.declared.memory.Memory.{Memory}
use Rattle.genie_object.specs.Pages.{page_at}
use Rattle.genie_object.specs.Objects.{object_at, entry_at, names}
use Rattle.genie_object.specs.Memory.{entry_frame, frame_of, frame_in}
use Rattle.genie_object.specs.Sound.{IsSound}
use Rattle.genie_object.specs.Lemmas.Lookup.{named, in_range}
use Rattle.genie_object.specs.Lemmas.Entries.{naming_there}
use Rattle.genie_object.specs.Lemmas.Relocated.{frame_is}
use Rattle.genie_hiding.specs.Hidden.{has_hidden, is_among}
use Rattle.genie_hiding.specs.Marking.{marked, is_marked, MarksObject}
use Rattle.genie_hiding.specs.Lemmas.Searching.{among_found, named_hidden, hidden_by}
use Rattle.genie_hiding.specs.Lemmas.Naming.{names_page, hidden_page}

-- one frame more is marked
marked_kept : (f : Option ℕ) (marks : List Bool) (g : ℕ) → is_marked marks g ≡ true → is_marked (marked f marks) g ≡ true
marked_kept None marks g e = e
marked_kept (Some f) marks g e = elim (same_or g f) [
  | inl s ↦ ap (is_marked (set marks f true)) s ∙ get_or-set_same marks f true false (in_range marks f false (λ n. let bad : true ≡ false = sym e ∙ ap (is_marked marks) s ∙ n in cc))
  | inr n ↦ get_or-set_other marks f g true false n ∙ e
]

marked_here : (f : Option ℕ) (marks : List Bool) (g : ℕ) → g < length marks → f ≡ Some g → is_marked (marked f marks) g ≡ true
marked_here f marks g l e = ap (λ x. is_marked (marked x marks) g) e ∙ get_or-set_same marks g true false l

marked_only : (f : Option ℕ) (marks : List Bool) (g : ℕ) → is_marked (marked f marks) g ≡ true → (is_marked marks g ≡ true) ⊎ (f ≡ Some g)
marked_only None marks g e = inl e
marked_only (Some f) marks g e = elim (same_or g f) [
  | inl s ↦ inr (ap Some (sym s))
  | inr n ↦ inl (sym (get_or-set_other marks f g true false n) ∙ e)
]

pub marks_none : (m : Memory) (o : ℕ) (marks : List Bool) → MarksObject m o 0 marks marks
marks_none m o marks = record { kept = λ f e. e; all = λ i f l e. absurd (omega (arith, l)); only = λ f e. inl e }

-- the frame of a page is there
pub frame_there : (m : Memory) (o i f : ℕ) → IsSound m → entry_frame m o i ≡ Some f → f < length m.frames.owners
frame_there m o i f s e = go (entry_at m.objects o i).page e where
  go : (page : Option PageId) → frame_of m.pages.pages page ≡ Some f → f < length m.frames.owners
  go None e = cc
  go (Some p) e = let y = frame_is (page_at m.pages.pages p.0).place f e in subst (λ n. n < length m.frames.owners) (sym y.number) (Rattle.genie_object.specs.Lemmas.Lookup.frame_known m p.0 y.frame s y.is)

pub marks_more : (m : Memory) (o i : ℕ) (old mid : List Bool) → IsSound m → length m.frames.owners ≤ length mid → MarksObject m o i old mid → MarksObject m o (i + 1) old (marked (entry_frame m o i) mid)
marks_more m o i old mid s l x = record {
  kept = λ f e. marked_kept (entry_frame m o i) mid f (x.kept f e);
  all = λ j f lj e. elim (same_or j i) [
    | inl h ↦ let at = ap (entry_frame m o) (sym h) ∙ e in marked_here (entry_frame m o i) mid f (omega (arith, l, frame_there m o i f s at)) at
    | inr n ↦ marked_kept (entry_frame m o i) mid f (x.all j f (omega (arith, lj, n)) e)
  ];
  only = λ f e. elim (marked_only (entry_frame m o i) mid f e) [
    | inl h ↦ x.only f h
    | inr h ↦ inr (record { index = i; frame = h })
  ];
}

-- the frames of the first n hidden regions are marked, and no others
pub record AreMarked (m : Memory) (hidden : List ℕ) (n : ℕ) (marks : List Bool) : Type 0 where
  pub all : (k i f : ℕ) → k < n → entry_frame m (get_or hidden k 0) i ≡ Some f → is_marked marks f ≡ true
  pub only : (f : ℕ) → is_marked marks f ≡ true → has_hidden m.objects hidden (owner_at m.frames f) ≡ true

pub marked_none : (m : Memory) (hidden : List ℕ) (marks : List Bool) → ((f : ℕ) → is_marked marks f ≡ false) → AreMarked m hidden 0 marks
marked_none m hidden marks h = record { all = λ k i f l e. absurd (omega (arith, l)); only = λ f e. let bad : true ≡ false = sym e ∙ h f in cc }

-- a frame with an entry's page has that page
record IsAtEntry (m : Memory) (o i f : ℕ) : Type 0 where
  page : PageId
  is_page : (entry_at m.objects o i).page ≡ Some page
  owner : owner_at m.frames f ≡ Page page.0

at_entry : (m : Memory) (o i f : ℕ) → IsSound m → entry_frame m o i ≡ Some f → IsAtEntry m o i f
at_entry m o i f s e = go (entry_at m.objects o i).page refl e where
  go : (page : Option PageId) → (entry_at m.objects o i).page ≡ page → frame_of m.pages.pages page ≡ Some f → IsAtEntry m o i f
  go None w e = cc
  go (Some p) w e =
      let y = frame_is (page_at m.pages.pages p.0).place f e in
      record { page = p; is_page = w; owner = ap (owner_at m.frames) y.number ∙ s.placed.in_frame p.0 y.frame y.is }

hidden_at : (m : Memory) (hidden : List ℕ) (o i f : ℕ) → IsSound m → is_among o hidden ≡ true → entry_frame m o i ≡ Some f → has_hidden m.objects hidden (owner_at m.frames f) ≡ true
hidden_at m hidden o i f s e w =
    let z = at_entry m o i f s w in
    let n = named z.page (entry_at m.objects o i) z.is_page in
    ap (has_hidden m.objects hidden) z.owner ∙ named_hidden m.objects hidden o i z.page.0 e n (naming_there m.objects z.page.0 o i n)

pub marked_more : (m : Memory) (hidden : List ℕ) (k n : ℕ) (old new : List Bool) → IsSound m → k < length hidden → n ≡ length (object_at m.objects (get_or hidden k 0)) → MarksObject m (get_or hidden k 0) n old new → AreMarked m hidden k old → AreMarked m hidden (k + 1) new
marked_more m hidden k n old new s l size x y = record {
  all = λ j i f lj e. elim (same_or j k) [
    | inl h ↦
        let at = ap (λ a. entry_frame m (get_or hidden a 0) i) (sym h) ∙ e in
        let z = at_entry m (get_or hidden k 0) i f s at in
        let there = naming_there m.objects z.page.0 (get_or hidden k 0) i (named z.page (entry_at m.objects (get_or hidden k 0) i) z.is_page) in
        x.all i f (omega (arith, there, size)) at
    | inr d ↦ x.kept f (y.all j i f (omega (arith, lj, d)) e)
  ];
  only = λ f e. elim (x.only f e) [
    | inl h ↦ y.only f h
    | inr h ↦ hidden_at m hidden (get_or hidden k 0) h.index f s (among_found hidden k l) h.frame
  ];
}

-- a page that an entry names is in the frame that has it
frame_named : (m : Memory) (o i f p : ℕ) → IsSound m → owner_at m.frames f ≡ Page p → names p (entry_at m.objects o i) ≡ true → entry_frame m o i ≡ Some f
frame_named m o i f p s owned n =
    let q : PageId = record { 0 = p } in
    let g : FrameId = record { 0 = f } in
    ap (frame_of m.pages.pages) (names_page q (entry_at m.objects o i) n) ∙ ap frame_in (s.placed.of_page g p owned)

pub marked_all : (m : Memory) (hidden : List ℕ) (n : ℕ) (marks : List Bool) → IsSound m → n ≡ length hidden → AreMarked m hidden n marks → (f : ℕ) → is_marked marks f ≡ has_hidden m.objects hidden (owner_at m.frames f)
marked_all m hidden n marks s size x f = go (has_hidden m.objects hidden (owner_at m.frames f)) refl (is_marked marks f) refl where
  go : (a : Bool) → has_hidden m.objects hidden (owner_at m.frames f) ≡ a → (b : Bool) → is_marked marks f ≡ b → b ≡ a
  go true e true w = refl
  go false e false w = refl
  go false e true w = sym (x.only f w) ∙ e
  go true e false w =
      let z = hidden_page m.objects hidden (owner_at m.frames f) e in
      let y = hidden_by m.objects hidden z.page z.is_hid in
      sym w ∙ x.all y.place y.index f (omega (arith, size, y.there)) (frame_named m (get_or hidden y.place 0) y.index f z.page s z.is_page y.named)
