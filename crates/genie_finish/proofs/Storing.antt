-- A page of a buffer is stored.
use Rattle.std.proofs.Common.{◌≡◌, ◌≢◌, ℕ, ◌+◌, ◌-◌, ◌<◌, ◌≤◌, Bool, true, false, List, [], ◌∷◌, length, refl, ap, sym, ◌∙◌, arith, subst, inl, inr, length-set, rules}
use Rattle.std.specs.Prelude.{Some, None, Option, ◌==◌, ◌&&◌, ◌||◌, nat_le, nat_lt, if◌then◌else◌}
use Rattle.std.proofs.lemmas.List.{get_or-set_same, get_or-set_other}
use Rattle.genie_base.specs.Bytes.{overlaid, part}
use Rattle.genie_base.specs.Lemmas.Places.{same_or, num}
use Rattle.genie_frame.specs.declared.frame.FrameId.{FrameId}
use Rattle.genie_frame.specs.declared.frame.InLoan.{InLoan}
use Rattle.genie_frame.specs.declared.frame.Owner.{Owner}
use Rattle.genie_frame.specs.declared.frame.Owner.TheVariants.{Free, Page, System, Pool, Nobody}
use Rattle.genie_frame.specs.declared.frame.Counts.{Counts}
use Rattle.genie_frame.specs.FrameTable.{FrameTable, owner_at, counts_at, bytes_at, is_held, is_lent, is_system, no_counts, IsShaped, AreLoansOwned}
use Rattle.genie_frame.specs.Frames.{stored, more_copied, left_to, loan_ended, one_input_less}
use Rattle.genie_object.specs.declared.memory.Memory.{Memory}
use Rattle.genie_object.specs.Objects.{entry_at}
use Rattle.genie_object.specs.Memory.{Seen, seen, see_entry, see_kept, is_kept, entry_frame, frame_of, frame_in}
use Rattle.genie_object.specs.Sound.{IsSound, IsFramed, IsPrivate, strong_at}
use Rattle.genie_object.specs.Keeping.{OnlyFrame, shown}
use Rattle.genie_object.specs.Lemmas.Changing.{shows_frame, shows_unseen_end}
use Rattle.genie_plan.specs.Loans.{Loan, Strong, Weak, Input, input_loan, one_less, let_go, ended, AreOut, Ended}
use Rattle.genie_plan.specs.Lemmas.Ending.{ended_more, ended_none, loan_cons, frame_cons, other_test}
use Rattle.genie_plan.specs.Ending.{CanEnd}
use Rattle.genie_plan.specs.Lemmas.Ended.{ends_soundly}
use Rattle.genie_object.specs.Leaving.{IsUnheld}
use Rattle.genie_plan.specs.Lemmas.Landings.{page_in}
use Rattle.genie_object.specs.declared.objects.Entry.{Entry}
use Rattle.genie_object.specs.declared.pages.PageId.{PageId}
use Rattle.genie_object.specs.declared.pages.Place.{Place}
use Rattle.genie_object.specs.declared.pages.Place.TheVariants.{Frame}
use Rattle.genie_object.specs.Pages.{page_at}
use Rattle.genie_input.specs.Buffers.{IsBuffer}
use Rattle.genie_finish.specs.Storing.{see_stored, held_in, is_held_at, is_copied, stored_work, CanStore}
use Rattle.genie_object.specs.Costs.{is_untouched}
use Rattle.std.proofs.lemmas.Bool.Decides.{nat_tests}

buffer_goes : (o : Owner) (c : Counts) → is_system o ≡ true → is_lent c ≡ false → let_go o c ≡ Free
buffer_goes Free c e h = cc
buffer_goes (Page p) c e h = cc
buffer_goes (System t) c e h = ap (λ b. if b then Nobody else Free) h
buffer_goes (Pool d) c e h = ap (λ b. if b then Nobody else Free) h
buffer_goes Nobody c e h = cc

num_small : (x : Bool) → num x ≤ 1
num_small true = omega arith
num_small false = omega arith

-- a frame of a buffer that carries one loan, and the loan ends
module _ (m : Memory) (t : FrameTable) (loan : InLoan) (s : IsSound m) (b : IsBuffer m.frames loan.frame.0) (e : t ≡ ended m.frames (input_loan loan)) (shaped : IsShaped t.page t.owners t.counts t.bytes) (lent : AreLoansOwned t.owners t.counts) where
  abbrev f : ℕ
  f = loan.frame.0

  counted : f < length m.frames.counts
  counted = omega (arith, b.there, s.shaped.counted)

  pub counts_here : counts_at t f ≡ no_counts
  counts_here = ap (λ u. counts_at u f) e ∙ get_or-set_same m.frames.counts f _ no_counts counted ∙ ap (one_less Input) b.lent

  pub counts_else : (g : ℕ) → g ≢ f → counts_at t g ≡ counts_at m.frames g
  counts_else g n = ap (λ u. counts_at u g) e ∙ get_or-set_other m.frames.counts f g _ no_counts n

  owner_here : owner_at t f ≡ Free
  owner_here = ap (λ u. owner_at u f) e ∙ get_or-set_same m.frames.owners f _ Free b.there ∙ buffer_goes (owner_at m.frames f) (one_less Input (counts_at m.frames f)) b.own (ap (λ c. is_lent (one_less Input c)) b.lent)

  pub owner_else : (g : ℕ) → g ≢ f → owner_at t g ≡ owner_at m.frames g
  owner_else g n = ap (λ u. owner_at u g) e ∙ get_or-set_other m.frames.owners f g _ Free n

  only : OnlyFrame f m.frames t
  only = record { page = ap (λ (u : FrameTable). u.page) e; owners = owner_else; counts = counts_else; bytes = ap (λ (u : FrameTable). u.bytes) e }

  pub gone_shows : (slots : ℕ → List ℕ) → seen (record m { frames = t }) slots ≡ see_kept (seen m slots) f []
  gone_shows slots = shows_frame m (record m { frames = t }) f slots only refl refl ∙ ap (λ o. see_kept (seen m slots) f (shown o (counts_at t f) (bytes_at m.frames f))) owner_here

  out : AreOut m.frames (input_loan loan ∷ [])
  out Strong g = omega (arith, loan_cons (input_loan loan) [] Strong g)
  out Weak g = omega (arith, loan_cons (input_loan loan) [] Weak g)
  out Input g = elim (same_or g f) [
    | inl w ↦ omega (arith, loan_cons (input_loan loan) [] Input g, num_small (f == g), ap (λ n. (counts_at m.frames n).input) w, ap (λ (c : Counts). c.input) b.lent)
    | inr n ↦ omega (arith, loan_cons (input_loan loan) [] Input g, ap num (other_test f g (λ w. n (sym w))))
  ]

  is_ended : Ended (input_loan loan ∷ []) m.frames t
  is_ended = ended_more m.frames (input_loan loan) [] s.shaped out t (subst (λ u. Ended [] u t) e (ended_none t))

  can : CanEnd (input_loan loan ∷ []) m.frames t
  can = record {
    wired = λ g w. elim (same_or g f) [
      | inl d ↦ absurd (omega (arith, w, ap (λ n. (counts_at t n).wires) d, ap (λ (c : Counts). c.wires) counts_here))
      | inr n ↦ ap is_held (counts_else g n) ∙ s.wired g (omega (arith, w, ap (λ (c : Counts). c.wires) (counts_else g n)))
    ];
    buffers = λ g h w. elim (same_or g f) [
      | inl d ↦ ap (λ n. is_lent (counts_at t n)) d ∙ ap is_lent counts_here
      | inr n ↦ absurd (omega (arith, h, frame_cons (input_loan loan) [] g, ap num (other_test f g (λ w. n (sym w)))))
    ];
  }

  pub gone_sound : IsSound (record m { frames = t })
  gone_sound = ends_soundly m t (input_loan loan ∷ []) s shaped lent is_ended can

-- the whole of a copied page
pub copied_shows : (s c k : Seen) (o i f off n : ℕ) (bytes : List ℕ) → c ≡ see_entry s o i (overlaid off (part off n bytes) (s.entry_bytes o i)) → k ≡ see_kept c f [] → k ≡ see_stored s o i f off n bytes
copied_shows s c k o i f off n bytes a b = b ∙ ap (λ x. see_kept x f []) a

-- a buffer's frame after bytes were copied from it to a page
pub buffer_still : (m : Memory) (c : FrameTable) (f g x n : ℕ) (bytes : List ℕ) → c ≡ more_copied (stored m.frames g x bytes) n → IsBuffer m.frames f → IsBuffer c f
buffer_still m c f g x n bytes e b = subst (λ t. IsBuffer t f) (sym e) (record { there = b.there; own = b.own; lent = b.lent })

pub private_frame : (m : Memory) (o i : ℕ) (x : IsPrivate m.frames.counts m.pages.pages (entry_at m.objects o i).page) → entry_frame m o i ≡ Some x.frame.0
private_frame m o i x = ap (frame_of m.pages.pages) x.is_page ∙ ap frame_in x.is_place

pub buffer_out : (m : Memory) (c : FrameTable) (o i f x n : ℕ) (bytes : List ℕ) → IsPrivate m.frames.counts m.pages.pages (entry_at m.objects o i).page → ((g : ℕ) → entry_frame m o i ≡ Some g → c ≡ more_copied (stored m.frames g x bytes) n) → IsBuffer m.frames f → IsBuffer c f
buffer_out m c o i f x n bytes own frames b = buffer_still m c f own.frame.0 x n bytes (frames own.frame.0 (private_frame m o i own)) b

pub lent_input : (t : FrameTable) (f : ℕ) → IsBuffer t f → 0 < (counts_at t f).input
lent_input t f b = omega (arith, ap (λ (c : Counts). c.input) b.lent)

pub copied_meters : (m : Memory) (c t : FrameTable) (o i x n : ℕ) (bytes : List ℕ) (loan : Loan) → IsPrivate m.frames.counts m.pages.pages (entry_at m.objects o i).page → ((g : ℕ) → entry_frame m o i ≡ Some g → c ≡ more_copied (stored m.frames g x bytes) n) → t ≡ ended c loan → t.meters ≡ record (m.frames.meters) { copied = m.frames.meters.copied + n }
copied_meters m c t o i x n bytes loan own frames e = ap (λ (u : FrameTable). u.meters) e ∙ ap (λ (u : FrameTable). u.meters) (frames own.frame.0 (private_frame m o i own))

buffer_left : (o : Owner) (c : Counts) → is_system o ≡ true → left_to o c ≡ o
buffer_left Free c e = cc
buffer_left (Page p) c e = cc
buffer_left (System t) c e = refl
buffer_left (Pool d) c e = refl
buffer_left Nobody c e = cc

buffer_kept : (o : Owner) (c d : Counts) → is_system o ≡ true → is_kept o c ≡ is_kept o d
buffer_kept Free c d e = refl
buffer_kept (Page p) c d e = cc
buffer_kept (System t) c d e = refl
buffer_kept (Pool g) c d e = refl
buffer_kept Nobody c d e = refl

pub buffer_page : (o : Owner) (p : ℕ) → is_system o ≡ true → o ≡ Page p → ⊥
buffer_page o p e h = let bad : false ≡ true = sym (ap is_system h) ∙ e in cc

-- what a frame shows last counts
kept_last : (s : Seen) (f o i : ℕ) (x y z : List ℕ) → see_kept (see_entry (see_kept s f x) o i y) f z ≡ see_kept (see_entry s o i y) f z
kept_last s f o i x y z = λ k. record { entry_bytes = (see_entry s o i y).entry_bytes; kept_bytes = λ g. chosen (g == f) (s.kept_bytes g) k }
  where
    chosen : (v : Bool) (old : List ℕ) → (if v then z else (if v then x else old)) ≡ (if v then z else old)
    chosen true old = refl
    chosen false old = refl

-- the loan of a buffer's frame is back, and the frame is still the buffer's
module _ (m : Memory) (t : FrameTable) (f : ℕ) (s : IsSound m) (b : IsBuffer m.frames f) (e : t ≡ loan_ended m.frames f (one_input_less (counts_at m.frames f))) (shaped : IsShaped t.page t.owners t.counts t.bytes) (lent : AreLoansOwned t.owners t.counts) where
  counted' : f < length m.frames.counts
  counted' = omega (arith, b.there, s.shaped.counted)

  pub back_counts : counts_at t f ≡ no_counts
  back_counts = ap (λ u. counts_at u f) e ∙ get_or-set_same m.frames.counts f _ no_counts counted' ∙ ap one_input_less b.lent

  pub back_else : (g : ℕ) → g ≢ f → counts_at t g ≡ counts_at m.frames g
  back_else g n = ap (λ u. counts_at u g) e ∙ get_or-set_other m.frames.counts f g _ no_counts n

  pub back_owner : (g : ℕ) → owner_at t g ≡ owner_at m.frames g
  back_owner g = elim (same_or g f) [
    | inl d ↦ ap (owner_at t) d ∙ ap (λ u. owner_at u f) e ∙ get_or-set_same m.frames.owners f _ Free b.there ∙ buffer_left (owner_at m.frames f) _ b.own ∙ ap (owner_at m.frames) (sym d)
    | inr n ↦ ap (λ u. owner_at u g) e ∙ get_or-set_other m.frames.owners f g _ Free n
  ]

  back_strong : (g : ℕ) → strong_at t.counts g ≡ strong_at m.frames.counts g
  back_strong g = elim (same_or g f) [
    | inl d ↦ ap (strong_at t.counts) d ∙ ap (λ (c : Counts). c.strong) back_counts ∙ sym (ap (λ (c : Counts). c.strong) b.lent) ∙ ap (strong_at m.frames.counts) (sym d)
    | inr n ↦ ap (λ (c : Counts). c.strong) (back_else g n)
  ]

  -- a frame that a device holds now isn't this one
  back_held : (g : ℕ) → is_held (counts_at t g) ≡ true → is_held (counts_at m.frames g) ≡ true
  back_held g h = elim (same_or g f) [
    | inl d ↦ let bad : false ≡ true = sym (ap (λ n. is_held (counts_at t n)) d ∙ ap is_held back_counts) ∙ h in cc
    | inr n ↦ sym (ap is_held (back_else g n)) ∙ h
  ]

  pub back_sound : IsSound (record m { frames = t })
  back_sound = record {
    shaped = shaped;
    placed = record {
      in_frame = λ p g w. back_owner g.0 ∙ s.placed.in_frame p g w;
      of_page = λ g p w. s.placed.of_page g p (sym (back_owner g.0) ∙ w);
    };
    lent = lent;
    held = record {
      alone = λ g p w h. s.held.alone g p (sym (back_owner g) ∙ w) (back_held g h);
      unlent = λ g w h. back_strong g ∙ s.held.unlent g (sym (ap is_system (back_owner g)) ∙ w) (back_held g h);
    };
    wired = λ g w. elim (same_or g f) [
      | inl d ↦ absurd (omega (arith, w, ap (λ n. (counts_at t n).wires) d, ap (λ (c : Counts). c.wires) back_counts))
      | inr n ↦ ap is_held (back_else g n) ∙ s.wired g (omega (arith, w, ap (λ (c : Counts). c.wires) (back_else g n)))
    ];
    slotted = s.slotted;
    shared = s.shared;
    guarded = record {
      readable = s.guarded.readable;
      writable = λ o i w. let h = s.guarded.writable o i w in record { number = h.number; frame = h.frame; is_page = h.is_page; is_place = h.is_place; alone = h.alone; unlent = back_strong h.frame.0 ∙ h.unlent };
    };
  }

  pub back_shows : (slots : ℕ → List ℕ) → seen (record m { frames = t }) slots ≡ seen m slots
  back_shows slots = ap (λ u. seen (record m { frames = u }) slots) e ∙ shows_unseen_end m f (one_input_less (counts_at m.frames f)) slots s.shaped b.there (ap (λ o. is_kept o (one_input_less (counts_at m.frames f))) (buffer_left (owner_at m.frames f) _ b.own) ∙ buffer_kept (owner_at m.frames f) _ _ b.own)

  pub back_system : is_system (owner_at t f) ≡ true
  back_system = ap is_system (back_owner f) ∙ b.own

  pub back_unlent : is_lent (counts_at t f) ≡ false
  back_unlent = ap is_lent back_counts

  pub back_there : f < length t.owners
  back_there = omega (arith, ap (λ (u : FrameTable). length u.owners) e, length-set m.frames.owners f (left_to (owner_at m.frames f) (one_input_less (counts_at m.frames f))), b.there)

  pub back_unheld : (o i : ℕ) → IsUnheld m o i → IsUnheld (record m { frames = t }) o i
  back_unheld o i h g w = elim (same_or g f) [
    | inl d ↦ ap (λ n. is_held (counts_at t n)) d ∙ ap is_held back_counts
    | inr n ↦ ap is_held (back_else g n) ∙ h g w
  ]

  pub back_bytes : bytes_at t f ≡ bytes_at m.frames f
  back_bytes = ap (λ (u : FrameTable). bytes_at u f) e

  pub back_meters : t.meters ≡ m.frames.meters
  back_meters = ap (λ (u : FrameTable). u.meters) e

  -- a part of the page was stored, and the rest of it brought to the frame
  pub part_shows : (o i off n : ℕ) (slots : ℕ → List ℕ) (two three : Seen) (bytes : List ℕ) → bytes ≡ overlaid off (part off n (bytes_at t f)) ((seen (record m { frames = t }) slots).entry_bytes o i) → two ≡ see_kept (seen (record m { frames = t }) slots) f (overlaid off (part off n (bytes_at t f)) ((seen (record m { frames = t }) slots).entry_bytes o i)) → three ≡ see_kept (see_entry two o i bytes) f [] → three ≡ see_stored (seen m slots) o i f off n (bytes_at m.frames f)
  part_shows o i off n slots two three bytes h j k =
      let laid : overlaid off (part off n (bytes_at t f)) ((seen (record m { frames = t }) slots).entry_bytes o i) ≡ overlaid off (part off n (bytes_at m.frames f)) ((seen m slots).entry_bytes o i) = λ x. overlaid off (part off n (back_bytes x)) ((back_shows slots x).entry_bytes o i) in
      k ∙ (λ x. see_kept (see_entry (j x) o i (h x)) f []) ∙ (λ x. see_kept (see_entry (see_kept (back_shows slots x) f (laid x)) o i (laid x)) f []) ∙ kept_last (seen m slots) f o i (overlaid off (part off n (bytes_at m.frames f)) ((seen m slots).entry_bytes o i)) (overlaid off (part off n (bytes_at m.frames f)) ((seen m slots).entry_bytes o i)) []

-- a page that a device holds is the entry's own
pub held_private : (m : Memory) (o i : ℕ) → IsSound m → is_held_at m o i ≡ true → IsPrivate m.frames.counts m.pages.pages (entry_at m.objects o i).page
held_private m o i s h = by_frame (entry_frame m o i) refl h
  where
    by_frame : (x : Option ℕ) → entry_frame m o i ≡ x → held_in m x ≡ true → IsPrivate m.frames.counts m.pages.pages (entry_at m.objects o i).page
    by_frame None e w = cc
    by_frame (Some f) e w =
        let x = page_in m o i f e in
        let own = s.placed.in_frame x.number.0 (record { 0 = f }) x.is_place in
        record {
          number = x.number;
          frame = record { 0 = f };
          is_page = x.is_page;
          is_place = x.is_place;
          alone = s.held.alone f x.number.0 own w;
          unlent = s.held.unlent f (ap is_system own) w;
        }

pub not_held : (m : Memory) (o i : ℕ) → is_held_at m o i ≡ false → IsUnheld m o i
not_held m o i h f e = sym (ap (held_in m) e) ∙ h

pub held_by : (m : Memory) (o i : ℕ) (p : PageId) (f : FrameId) (e : Entry) (place : Place) → e ≡ entry_at m.objects o i → e.page ≡ Some p → place ≡ (page_at m.pages.pages p.0).place → place ≡ Frame f → is_held_at m o i ≡ is_held (counts_at m.frames f.0)
held_by m o i p f e place a b c d = ap (λ (x : Entry). held_in m (frame_of m.pages.pages x.page)) (sym a) ∙ ap (λ q. held_in m (frame_of m.pages.pages q)) b ∙ ap (λ q. held_in m (frame_in q)) (sym c ∙ d)

both_true : (n page few : ℕ) → (nat_lt n page && nat_le n few) ≡ true → (n < page) × (n ≤ few)
both_true n page few h = grind (arith, nat_tests, rules, h)

-- what is copied stands in a page of the entry's own
pub copied_own : (m : Memory) (o i n few : ℕ) → IsSound m → CanStore m o i n few → is_copied m o i n few ≡ true → IsPrivate m.frames.counts m.pages.pages (entry_at m.objects o i).page
copied_own m o i n few s can h = by_held (is_held_at m o i) refl
  where
    by_held : (b : Bool) → is_held_at m o i ≡ b → IsPrivate m.frames.counts m.pages.pages (entry_at m.objects o i).page
    by_held true e = held_private m o i s e
    by_held false e =
        let rest : (nat_lt n m.frames.page && nat_le n few) ≡ true = sym (ap (λ b. b || (nat_lt n m.frames.page && nat_le n few)) e) ∙ h in
        let both = both_true n m.frames.page few rest in
        can.few_bytes both.0 both.1

first_false : (a b : Bool) → (a || b) ≡ false → a ≡ false
first_false true b h = h
first_false false b h = refl

pub swapped_unheld : (m : Memory) (o i n few : ℕ) → is_copied m o i n few ≡ false → IsUnheld m o i
swapped_unheld m o i n few h = not_held m o i (first_false (is_held_at m o i) (nat_lt n m.frames.page && nat_le n few) h)

pub swapped_framed : (m : Memory) (o i n few : ℕ) → CanStore m o i n few → n < m.frames.page → is_untouched m o i ≡ false → IsFramed m.pages.pages (entry_at m.objects o i).page
swapped_framed m o i n few can l u = let x = can.touched l u in record { number = x.number; frame = x.frame; is_page = x.is_page; is_place = x.is_place }

pub work_copied : (m : Memory) (o i n few : ℕ) → is_copied m o i n few ≡ true → n ≡ stored_work m o i n few
work_copied m o i n few h = sym (ap (λ b. if b then n else m.frames.page - n) h)

pub work_swapped : (m : Memory) (o i n few : ℕ) → is_copied m o i n few ≡ false → m.frames.page - n ≡ stored_work m o i n few
work_swapped m o i n few h = sym (ap (λ b. if b then n else m.frames.page - n) h)
