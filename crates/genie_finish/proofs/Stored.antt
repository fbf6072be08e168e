-- A page of a buffer was stored, by copying it or by swapping.
use Rattle.std.proofs.Common.{◌≡◌, ◌≢◌, ℕ, ◌<◌, true, false, List, [], ◌∷◌, length, get_or, refl, ap, sym, ◌∙◌, arith, rules, subst, inl, inr, length-set}
use Rattle.std.specs.Prelude.{Some, ◌==◌, count_by, replicate}
use Rattle.std.proofs.lemmas.List.{length-replicate}
use Rattle.genie_base.specs.Bytes.{overlaid, part}
use Rattle.genie_base.specs.Lemmas.Overlaid.{length-overlaid}
use Rattle.genie_base.specs.Lemmas.Places.{num}
use Rattle.genie_frame.specs.declared.frame.FrameId.{FrameId}
use Rattle.genie_frame.specs.declared.frame.InLoan.{InLoan}
use Rattle.genie_frame.specs.declared.frame.Owner.{Owner}
use Rattle.genie_frame.specs.declared.frame.Owner.TheVariants.{Free, Page, System, Pool, Nobody}
use Rattle.genie_frame.specs.declared.frame.Meters.{Meters}
use Rattle.genie_frame.specs.FrameTable.{is_system, FrameTable, owner_at, counts_at, bytes_at, set_bytes, is_held, is_lent, is_page, no_counts, IsShaped, AreLoansOwned}
use Rattle.genie_frame.specs.Frames.{stored, more_copied, loan_ended, one_input_less}
use Rattle.genie_object.specs.declared.pages.Place.TheVariants.{Frame}
use Rattle.genie_object.specs.declared.memory.Memory.{Memory}
use Rattle.genie_object.specs.Pages.{PageTable, page_at, is_there}
use Rattle.genie_object.specs.Objects.{entry_at, object_at, names}
use Rattle.genie_object.specs.Memory.{seen, see_entry, see_kept, entry_frame}
use Rattle.genie_object.specs.Sound.{IsSound, IsPrivate}
use Rattle.genie_object.specs.Touching.{Touches, is_entry, system_owner}
use Rattle.genie_object.specs.Costs.{Spends, place_of}
use Rattle.genie_object.specs.Lemmas.Touching.{touches_on, sound_metered}
use Rattle.genie_object.specs.Lemmas.Showing.{seen_landed, keeps_sound}
use Rattle.genie_plan.specs.Plans.{times}
use Rattle.genie_plan.specs.Loans.{input_loan, ended}
use Rattle.genie_plan.specs.Lemmas.Ranges.{times-cons}
use Rattle.genie_plan.specs.Lemmas.Landings.{entry_size}
use Rattle.genie_swap.specs.Beside.{LeavesOthers}
use Rattle.genie_object.specs.Leaving.{IsUnheld}
use Rattle.genie_swap.specs.Entries.{SwapsOne}
use Rattle.genie_object.specs.Lemmas.Naming.{same_entry}
use Rattle.genie_input.specs.Buffers.{IsBuffer}
use Rattle.genie_finish.specs.Storing.{StoresPage, completed}
use Rattle.genie_finish.proofs.Completed.{all_laid, spends_copied}
use Rattle.genie_finish.proofs.Storing.{gone_sound, gone_shows, copied_shows, buffer_out, copied_meters, private_frame, counts_here, counts_else, owner_else, back_sound, back_owner, back_else, back_counts, back_meters, back_there, back_unheld, part_shows, buffer_page}
use Rattle.genie_finish.proofs.Staying.{stays_copied, stays_swapped}
use Rattle.genie_object.specs.Lemmas.PlaceOf.{place_in, framed_place}

-- a memory that differs in its frames alone
pub but_frames : (m n : Memory) → n.pages ≡ m.pages → n.objects ≡ m.objects → n.slots ≡ m.slots → n ≡ record m { frames = n.frames }
but_frames m n p o s = λ k. record { frames = n.frames; pages = p k; objects = o k; slots = s k }

-- a frame that isn't the one of a list of one
not_here : (f g : ℕ) → times (f ∷ []) g ≡ 0 → g ≢ f
not_here f g z e = let one : (f == g) ≡ true = grind (arith, rules) in omega (arith, times-cons f g [], z, ap num one)

-- a call that leaves pages and entries alone
touches_by : (spoken : ℕ → ℕ → _) (m new : Memory) → new.pages ≡ m.pages → new.objects ≡ m.objects → ((p : ℕ) (g : FrameId) → (page_at m.pages.pages p).place ≡ Frame g → counts_at new.frames g.0 ≡ counts_at m.frames g.0) → Touches spoken m new
touches_by spoken m new pe oe h = record {
  entries = λ a b z. record {
    page = ap (λ os. (entry_at os a b).page) oe;
    readable = λ w. sym (ap (λ os. (entry_at os a b).readable) oe) ∙ w;
    writable = λ w. sym (ap (λ os. (entry_at os a b).writable) oe) ∙ w;
  };
  pages = λ p u. ap (λ (t : PageTable). page_at t.pages p) pe;
  outside = λ p u. record {
    there = subst (λ (t : PageTable). 0 < (page_at t.pages p).shares) (sym pe) u.there;
    named = λ a b w. u.named a b (sym (ap (λ os. names p (entry_at os a b)) oe) ∙ w);
  };
  counts = λ p g u e. h p g e;
}

-- a page's frame is none of a buffer's
page_apart : (m : Memory) (f p : ℕ) (g : FrameId) → IsSound m → IsBuffer m.frames f → (page_at m.pages.pages p).place ≡ Frame g → g.0 ≢ f
page_apart m f p g s b e same = buffer_page (owner_at m.frames f) p b.own (sym (ap (owner_at m.frames) same) ∙ s.placed.in_frame p g e)

-- the page was copied, and the loan ended
module _ (m c : Memory) (t : FrameTable) (loan : InLoan) (o i off n : ℕ) (bytes : List ℕ) (s : IsSound m) (own : IsPrivate m.frames.counts m.pages.pages (entry_at m.objects o i).page) (b : IsBuffer m.frames loan.frame.0)
    (sound : IsSound c) (frames : (g : ℕ) → entry_frame m o i ≡ Some g → c.frames ≡ more_copied (stored m.frames g off bytes) n)
    (owners : c.frames.owners ≡ m.frames.owners) (counts : c.frames.counts ≡ m.frames.counts) (page : c.frames.page ≡ m.frames.page) (pages : c.pages ≡ m.pages) (objects : c.objects ≡ m.objects) (slots : c.slots ≡ m.slots)
    (e : t ≡ ended c.frames (input_loan loan)) (shaped : IsShaped t.page t.owners t.counts t.bytes) (lent : AreLoansOwned t.owners t.counts) where
  abbrev f : ℕ
  f = loan.frame.0

  abbrev new : Memory
  new = record c { frames = t }

  buffer : IsBuffer c.frames f
  buffer = buffer_out m c.frames o i f off n bytes own frames b

  same_place : (a d : ℕ) → place_of new a d ≡ place_of m a d
  same_place a d = λ k. place_in ((pages k).pages) (entry_at (objects k) a d).page

  same_counts : (g : ℕ) → g ≢ f → counts_at t g ≡ counts_at m.frames g
  same_counts g ne = counts_else c t loan sound buffer e shaped lent g ne ∙ ap (λ cs. get_or cs g no_counts) counts

  same_owner : (g : ℕ) → g ≢ f → owner_at t g ≡ owner_at m.frames g
  same_owner g ne = owner_else c t loan sound buffer e shaped lent g ne ∙ ap (λ os. get_or os g Free) owners

  pub page_copied : ((sl : ℕ → List ℕ) → seen c sl ≡ see_entry (seen m sl) o i (overlaid off bytes ((seen m sl).entry_bytes o i))) → bytes ≡ part off n (bytes_at m.frames loan.frame.0) → StoresPage m (record c { frames = t }) o i loan.frame.0 off n n
  page_copied shown is = record {
    sound = gone_sound c t loan sound buffer e shaped lent;
    shows = λ sl told. copied_shows (seen m sl) (seen c sl) (seen new sl) o i f off n (bytes_at m.frames f) (shown sl ∙ ap (λ xs. see_entry (seen m sl) o i (overlaid off xs ((seen m sl).entry_bytes o i))) is) (gone_shows c t loan sound buffer e shaped lent sl);
    buffers = λ g ne y. stays_copied m c.frames t o i g off n bytes (input_loan loan) ne s own frames e y;
    places = λ a d ne. same_place a d;
    touches = touches_by (is_entry o i) m new pages objects (λ p g w. same_counts g.0 (page_apart m f p g s b w));
    keeps = record {
      entry_held = λ a d g w h. framed_place new m a d (same_place a d) ∙ w;
      counts = λ g z. same_counts g (not_here f g z);
      lent = λ g z l. inl (same_owner g (not_here f g z));
      systems = λ g z. ap system_owner (same_owner g (not_here f g z));
      entries = λ a. ap (λ os. length (object_at os a)) objects;
      number = ap (λ (u : FrameTable). length u.owners) e ∙ length-set c.frames.owners f _ ∙ ap length owners;
      page = ap (λ (u : FrameTable). u.page) e ∙ page;
      slots = ap length slots;
      most = ap (λ (u : PageTable). u.most) pages;
    };
    ended = counts_here c t loan sound buffer e shaped lent;
    landed = ap (λ (u : FrameTable). u.landed) e ∙ ap (λ (u : FrameTable). u.landed) (frames own.frame.0 (private_frame m o i own));
    added = omega (arith, ap (λ (u : PageTable). count_by is_there u.pages) pages);
    spends = spends_copied m.frames.meters t.meters n n (copied_meters m c.frames t o i off n bytes (input_loan loan) own frames e) (omega arith);
  }

buffer_kept : (o : Owner) → is_system o ≡ true → is_page o ≡ false
buffer_kept Free e = refl
buffer_kept (Page p) e = cc
buffer_kept (System t) e = refl
buffer_kept (Pool d) e = refl
buffer_kept Nobody e = refl

buffer_owned : (o : Owner) → is_system o ≡ true → o ≢ Free
buffer_owned o e h = let bad : false ≡ true = sym (ap is_system h) ∙ e in cc

completed_sound : (m : Memory) (f : ℕ) (b : List ℕ) (mt : Meters) → IsSound m → f < length m.frames.owners → length b ≡ m.frames.page → IsSound (record m { frames = completed m.frames f b mt })
completed_sound m f b mt s l full =
    let size : length (bytes_at m.frames f) ≡ m.frames.page = s.shaped.paged f [] (omega (arith, l, s.shaped.filled)) in
    let whole : overlaid 0 b (bytes_at m.frames f) ≡ b = all_laid b (bytes_at m.frames f) (full ∙ sym size) in
    sound_metered (record m { frames = set_bytes m.frames f b }) mt (subst (λ xs. IsSound (record m { frames = set_bytes m.frames f xs })) whole (keeps_sound m f 0 b s l))

-- the page was swapped, once the loan was back and the frame complete
module _ (m : Memory) (t u : FrameTable) (o i f off n work : ℕ) (s : IsSound m) (there : i < length (object_at m.objects o)) (unheld : IsUnheld m o i) (b : IsBuffer m.frames f) (e : t ≡ loan_ended m.frames f (one_input_less (counts_at m.frames f))) (shaped : IsShaped t.page t.owners t.counts t.bytes) (lent : AreLoansOwned t.owners t.counts)
    (is : u ≡ completed t f (bytes_at u f) u.meters) (laid : (sl : ℕ → List ℕ) → ((r : ℕ) → length (sl r) ≡ t.page) → bytes_at u f ≡ overlaid off (part off n (bytes_at t f)) ((seen (record m { frames = t }) sl).entry_bytes o i)) where
  same_page : t.page ≡ m.frames.page
  same_page = ap (λ (x : FrameTable). x.page) e

  back : IsSound (record m { frames = t })
  back = back_sound m t f s b e shaped lent

  abbrev zeros_for : ℕ → List ℕ
  zeros_for r = replicate t.page 0

  full : length (bytes_at u f) ≡ t.page
  full = ap length (laid zeros_for (λ r. length-replicate t.page 0)) ∙ length-overlaid off (part off n (bytes_at t f)) ((seen (record m { frames = t }) zeros_for).entry_bytes o i) ∙ entry_size (record m { frames = t }) zeros_for o i back (λ r. length-replicate t.page 0)

  pub complete_sound : IsSound (record m { frames = u })
  complete_sound = subst (λ x. IsSound (record m { frames = x })) (sym is) (completed_sound (record m { frames = t }) f (bytes_at u f) u.meters back (back_there m t f s b e shaped lent) full)

  -- the same frames in other words
  owner_now : (g : ℕ) → owner_at u g ≡ owner_at m.frames g
  owner_now g = ap (λ x. owner_at x g) is ∙ back_owner m t f s b e shaped lent g

  counts_now : (g : ℕ) → g ≢ f → counts_at u g ≡ counts_at m.frames g
  counts_now g ne = ap (λ x. counts_at x g) is ∙ back_else m t f s b e shaped lent g ne

  none_now : counts_at u f ≡ no_counts
  none_now = ap (λ x. counts_at x f) is ∙ back_counts m t f s b e shaped lent

  pub complete_owner : owner_at u f ≡ owner_at m.frames f
  complete_owner = owner_now f

  pub complete_unlent : is_lent (counts_at u f) ≡ false
  complete_unlent = ap is_lent none_now

  pub complete_unheld : IsUnheld (record m { frames = u }) o i
  complete_unheld g w = ap (λ x. is_held (counts_at x g)) is ∙ back_unheld m t f s b e shaped lent o i unheld g w

  pub complete_there : f < length u.owners
  complete_there = omega (arith, ap (λ (x : FrameTable). length x.owners) is, back_there m t f s b e shaped lent)

  complete_shows : (sl : ℕ → List ℕ) → seen (record m { frames = u }) sl ≡ see_kept (seen (record m { frames = t }) sl) f (bytes_at u f)
  complete_shows sl = ap (λ x. seen (record m { frames = x }) sl) is ∙ seen_landed (record m { frames = t }) f (bytes_at u f) sl back (ap is_page (back_owner m t f s b e shaped lent f) ∙ buffer_kept (owner_at m.frames f) b.own) (λ h. buffer_owned (owner_at m.frames f) b.own (sym (back_owner m t f s b e shaped lent f) ∙ h))

  pub page_swapped : (new : Memory) → IsSound new → ((sl : ℕ → List ℕ) → seen new sl ≡ see_kept (see_entry (seen (record m { frames = u }) sl) o i (bytes_at u f)) f []) → new.frames ≡ record u { owners = new.frames.owners } → LeavesOthers o i (record m { frames = u }) new → SwapsOne o i f (record m { frames = u }) new → Spends work 0 0 0 t.meters u.meters → StoresPage m new o i f off n work
  page_swapped new sound shown frames others x spends =
      record {
        sound = sound;
        shows = λ sl told.
            let own : (r : ℕ) → length (sl r) ≡ t.page = (λ r. told r ∙ sym same_page) in
            part_shows m t f s b e shaped lent o i off n sl (seen (record m { frames = u }) sl) (seen new sl) (bytes_at u f) (laid sl own) (complete_shows sl ∙ ap (see_kept (seen (record m { frames = t }) sl) f) (laid sl own)) (shown sl);
        buffers = λ g ne y. stays_swapped m (record m { frames = u }) new t o i f g (bytes_at u f) u.meters ne s b e shaped lent y is frames others;
        places = x.places;
        touches = touches_on (is_entry o i) m (record m { frames = u }) new (touches_by (is_entry o i) m (record m { frames = u }) refl refl (λ p g w. counts_now g.0 (page_apart m f p g s b w))) others.touches;
        keeps = record {
          entry_held = λ a d g w h. elim (same_entry a d o i) [
            | inl z ↦ let bad : false ≡ true = sym (unheld g ((λ k. entry_frame m (sym (z.0) k) (sym (z.1) k)) ∙ w)) ∙ h in cc
            | inr ne ↦ framed_place new (record m { frames = u }) a d (x.places a d ne) ∙ w
          ];
          counts = λ g z. ap (λ (y : FrameTable). counts_at y g) frames ∙ counts_now g (not_here f g z);
          lent = λ g z l. elim (others.lent g (ap is_lent (counts_now g (not_here f g z)) ∙ l)).owner [
            | inl h ↦ inl (h ∙ owner_now g)
            | inr h ↦ inr (ap is_page (sym (owner_now g)) ∙ h.0, h.1)
          ];
          systems = λ g z. x.systems g (not_here f g z) ∙ ap system_owner (owner_now g);
          entries = x.sizes;
          number = x.number ∙ ap (λ (y : FrameTable). length y.owners) is ∙ ap (λ (y : FrameTable). length y.owners) e ∙ length-set m.frames.owners f _;
          page = ap (λ (y : FrameTable). y.page) frames ∙ ap (λ (y : FrameTable). y.page) is ∙ same_page;
          slots = x.slots;
          most = x.most;
        };
        ended = ap (λ (y : FrameTable). counts_at y f) frames ∙ none_now;
        landed = ap (λ (y : FrameTable). y.landed) frames ∙ ap (λ (y : FrameTable). y.landed) is ∙ ap (λ (y : FrameTable). y.landed) e;
        added = x.pages;
        spends = subst (λ (w : Meters). Spends work 0 0 0 w new.frames.meters) (back_meters m t f s b e shaped lent) (subst (λ (w : Meters). Spends work 0 0 0 t.meters w) (sym (ap (λ (y : FrameTable). y.meters) frames)) spends);
      }
