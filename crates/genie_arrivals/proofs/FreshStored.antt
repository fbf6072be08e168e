-- Bytes are stored through fresh frames, as if those had never been taken.
use Rattle.std.proofs.Common.{◌≡◌, ℕ, ◌+◌, ◌/◌, ◌%◌, ◌<◌, ◌≤◌, true, false, List, [], ◌∷◌, refl, sym, ap, subst, arith, rules, ◌∙◌, length, get_or, ⊎_elim}
use Rattle.std.specs.Prelude.{Some, nat_lt, ◌⊎◌, ◌^◌, if◌then◌else◌}
use Rattle.genie_base.specs.Bytes.{overlaid}
use Rattle.genie_base.specs.Counts.{span}
use Rattle.genie_frame.specs.declared.frame.Counts.{Counts}
use Rattle.genie_frame.specs.declared.frame.Owner.{Owner}
use Rattle.genie_frame.specs.declared.frame.Owner.TheVariants.{Free, Page, System, Pool, Nobody}
use Rattle.genie_frame.specs.FrameTable.{FrameTable, bytes_at, counts_at, is_held, is_lent, is_page, is_system, no_counts, owner_at}
use Rattle.genie_finish.specs.Besides.{KeepsBesides}
use Rattle.genie_finish.specs.Ranges.{CanStoreRange}
use Rattle.genie_input.specs.Buffers.{AreBuffers, one_input}
use Rattle.genie_object.specs.declared.memory.Memory.{Memory}
use Rattle.genie_object.specs.Costs.{AreBelow}
use Rattle.genie_object.specs.Memory.{entry_frame, is_kept, seen}
use Rattle.genie_object.specs.Objects.{object_at}
use Rattle.genie_object.specs.Sound.{IsSound}
use Rattle.genie_object.specs.Touching.{Touches, is_in_range, system_owner}
use Rattle.genie_plan.specs.Buffers.{AreLentFresh}
use Rattle.genie_plan.specs.Fresh.{ShowsBesides}
use Rattle.genie_plan.specs.Landings.{Lands, ShowsNothingElse, entries_bytes}
use Rattle.genie_plan.specs.Plans.{CanLand, OnlyRange, range_bytes, times}
use Rattle.genie_plan.specs.Lemmas.Ending.{some_or}
use Rattle.genie_plan.specs.Lemmas.Landings.{lands_soundly, page_in, times_some}
use Rattle.genie_plan.specs.Lemmas.Ranges.{input_there, range_length}
use Rattle.genie_kernel.specs.Rising.{MetersRise}
use Rattle.genie_kernel.specs.Lemmas.Rising.{rises_most, rises_on}
use Rattle.genie_arrivals.specs.FreshStored.{CanStoreBytes, ShowsBytes, StoresBytes}
use Rattle.genie_arrivals.specs.Stored.{CanStoreBuffer, StoresBuffer}

over_whole : (new old : List ℕ) → length old ≡ length new → overlaid 0 new old ≡ new
over_whole [] [] e = refl
over_whole (x ∷ new) [] e = absurd (omega (arith, e))
over_whole [] (y ∷ old) e = absurd (omega (arith, e))
over_whole (x ∷ new) (y ∷ old) e = ap (λ l. x ∷ l) (over_whole new old (omega (arith, e)))

held_more : (c : Counts) (n : ℕ) → is_held c ≡ true → is_held (record c { input = c.input + n }) ≡ true
held_more c n h = grind (arith, rules)

-- a frame of no loan that isn't the system's shows nothing by itself
unseen : (o : Owner) (c : Counts) (bytes : List ℕ) → is_system o ≡ false → (o ≡ Nobody → is_lent c ≡ true) → c ≡ no_counts → (if is_kept o c then bytes else []) ≡ []
unseen Free c bytes s n e = refl
unseen (Page p) c bytes s n e = ap (λ (z : Counts). if nat_lt 0 z.strong then bytes else []) e
unseen (System t) c bytes s n e = absurd (cc)
unseen (Pool d) c bytes s n e = absurd (cc)
unseen Nobody c bytes s n e = let clash : true ≡ false = sym (n refl) ∙ ap is_lent e in absurd (cc)

unsystem : (o : Owner) → is_system o ≡ false → system_owner o ≡ Free
unsystem o e = ap (λ b. if b then o else Free) e

module _ (m : Memory) (t u : FrameTable) (n : ℕ) (fs : List ℕ) (first len : ℕ) (bytes : List ℕ) (sound : IsSound m) (x : AreLentFresh (System n) fs m.frames t) (sound_lent : IsSound (record m { frames = t })) (besides : ShowsBesides fs m (record m { frames = t })) (buffers : AreBuffers t fs) (ready : CanLand t fs first len) (size : len ≡ length bytes) (only : OnlyRange fs first len t u) (content : range_bytes u fs first len ≡ overlaid 0 bytes (range_bytes t fs first len)) where
  abbrev lent : Memory
  lent = record m { frames = t }

  abbrev full : Memory
  full = record m { frames = u }

  lands : Lands fs first len 0 bytes lent full
  lands = record { only = only; content = content; pages = refl; objects = refl; slots = refl }

  sound_full : IsSound full
  sound_full = lands_soundly lent full first len 0 fs bytes sound_lent lands

  same_owner : (f : ℕ) → owner_at u f ≡ owner_at t f
  same_owner f = ap (λ l. get_or l f Free) only.owners

  same_counts : (f : ℕ) → counts_at u f ≡ counts_at t f
  same_counts f = ap (λ l. get_or l f no_counts) only.counts

  pub full_buffers : AreBuffers u fs
  full_buffers = record {
    each = λ j l. let b = buffers.each j l in record { there = subst (λ z. get_or fs j 0 < length z) (sym only.owners) b.there; own = ap is_system (same_owner (get_or fs j 0)) ∙ b.own; lent = same_counts (get_or fs j 0) ∙ b.lent };
    apart = x.apart;
  }

  more_counts : (f : ℕ) → counts_at u f ≡ record (counts_at m.frames f) { input = (counts_at m.frames f).input + times fs f }
  more_counts f = same_counts f ∙ x.counts f

  other_counts : (f : ℕ) → times fs f ≡ 0 → counts_at u f ≡ counts_at m.frames f
  other_counts f z = let e : (counts_at m.frames f).input + times fs f ≡ (counts_at m.frames f).input = omega (arith, z) in more_counts f ∙ (λ k. record (counts_at m.frames f) { input = e k })

  other_owner : (f : ℕ) → times fs f ≡ 0 → owner_at u f ≡ owner_at m.frames f
  other_owner f z = same_owner f ∙ x.others f z

  -- a fresh frame carried nothing
  was_none : (f : ℕ) → 0 < times fs f → counts_at m.frames f ≡ no_counts
  was_none f h =
      let j = times_some fs f h in
      let one : counts_at t f ≡ one_input = subst (λ g. counts_at t g ≡ one_input) j.2 (buffers.each j.0 j.1).lent in
      let e : record (counts_at m.frames f) { input = (counts_at m.frames f).input + times fs f } ≡ one_input = sym (x.counts f) ∙ one in
      let sum : (counts_at m.frames f).input + times fs f ≡ 1 = ap (λ (c : Counts). c.input) e in
      let none : (counts_at m.frames f).input ≡ 0 = omega (arith, sum, h) in
      (λ k. record { strong = (e k).strong; weak = (e k).weak; input = none k; wires = (e k).wires })

  same_strong : (f : ℕ) → (counts_at u f).strong ≡ (counts_at m.frames f).strong
  same_strong f = ap (λ (c : Counts). c.strong) (more_counts f)

  same_page : u.page ≡ m.frames.page
  same_page = only.page ∙ x.page

  -- the range may be stored as before
  still_can : (o off n few : ℕ) → CanStoreRange m o off n few → CanStoreRange full o off n few
  still_can o off n few can = subst (λ z. CanStoreRange (record m { frames = record u { page = z } }) o off n few) (sym same_page) (λ k l. let c = can k l in record {
    few_bytes = λ a b. let p = c.few_bytes a b in record { number = p.number; frame = p.frame; is_page = p.is_page; is_place = p.is_place; alone = p.alone; unlent = same_strong p.frame.0 ∙ p.unlent };
    touched = λ a b. let p = c.touched a b in record { number = p.number; frame = p.frame; is_page = p.is_page; is_place = p.is_place; alone = p.alone; unlent = same_strong p.frame.0 ∙ p.unlent };
  })

  pub can_store_full : (o off few : ℕ) → CanStoreBytes m o off len few → length fs ≡ span m.frames.page off len → CanStoreBuffer full o off len few fs
  can_store_full o off few can number =
      let taken : u.meters.taken ≡ m.frames.meters.taken + length fs = ap (λ z. z.taken) (only.meters ∙ x.meters) in
      record {
        sound = sound_full;
        fits = can.fits;
        within = subst (λ z. off / z + span z off len ≤ length (object_at m.objects o)) (sym same_page) can.within;
        number = subst (λ z. span z off len ≤ length fs) (sym same_page) (omega (arith, number));
        most = omega (arith, number, can.most);
        can = still_can o off len few can.can;
        buffers = full_buffers;
        room = omega (arith, number, can.room);
        meters = subst (AreBelow (2 ^ 63 + 2 ^ 22)) (sym (only.meters ∙ x.meters)) (record { read = can.meters.read; written = can.meters.written; copied = can.meters.copied; zeroed = can.meters.zeroed; puts = can.meters.puts; gets = can.meters.gets; taken = omega (arith, can.taken, number, can.most) });
      }

  -- all the bytes are in the frames
  full_bytes : range_bytes u fs first len ≡ bytes
  full_bytes = content ∙ over_whole bytes (range_bytes t fs first len) (range_length fs first len t sound_lent.shaped (λ j l. input_there t.counts (get_or fs j 0) (ready.out j l)) ready.within ∙ size)

  -- no entry's page is in a fresh frame
  entry_else : (a b f : ℕ) → entry_frame lent a b ≡ Some f → times fs f ≡ 0
  entry_else a b f e = ⊎_elim
      (λ (some : 0 < times fs f).
      let p = page_in lent a b f e in
      let clash : System n ≡ Page p.number.0 = sym (x.owned f some) ∙ sound_lent.placed.in_frame p.number.0 _ p.is_place in
      absurd (cc))
      (λ (none : times fs f ≡ 0). none)
      (some_or (times fs f))

  module _ (nowhere : ShowsNothingElse) (new : Memory) (o off : ℕ) (place : first ≡ off % m.frames.page) (y : StoresBuffer full new o off len fs) where
    same_all : (f : ℕ) → counts_at new.frames f ≡ counts_at m.frames f
    same_all f = ⊎_elim
        (λ (some : 0 < times fs f). y.ended f some ∙ sym (was_none f some))
        (λ (none : times fs f ≡ 0). y.keeps.counts f none ∙ other_counts f none)
        (some_or (times fs f))

    keeps : KeepsBesides [] m new
    keeps = record {
      entry_held = λ a b f e held. y.keeps.entry_held a b f e (subst (λ (c : Counts). is_held c ≡ true) (sym (more_counts f)) (held_more (counts_at m.frames f) (times fs f) held));
      counts = λ f z. same_all f;
      lent = λ f z l. ⊎_elim
          (λ (some : 0 < times fs f). let clash : true ≡ false = sym l ∙ (sound.lent f).free (x.were_free f some) in absurd (cc))
          (λ (none : times fs f ≡ 0). subst (λ (w : Owner). (owner_at new.frames f ≡ w) ⊎ ((is_page w ≡ true) × (owner_at new.frames f ≡ Nobody))) (other_owner f none) (y.keeps.lent f none (ap is_lent (other_counts f none) ∙ l)))
          (some_or (times fs f));
      systems = λ f z. ⊎_elim
          (λ (some : 0 < times fs f). unsystem (owner_at new.frames f) (y.unowned f some) ∙ sym (ap system_owner (x.were_free f some)))
          (λ (none : times fs f ≡ 0). y.keeps.systems f none ∙ ap system_owner (other_owner f none))
          (some_or (times fs f));
      entries = y.keeps.entries;
      number = y.keeps.number ∙ ap length only.owners ∙ x.size;
      page = y.keeps.page ∙ same_page;
      slots = y.keeps.slots;
      most = y.keeps.most;
    }

    shows : (slots : ℕ → List ℕ) → ((s : ℕ) → length (slots s) ≡ m.frames.page) → ShowsBytes m new o off bytes slots
    shows slots paged =
        let z = y.shows slots (λ s. paged s ∙ sym same_page) in
        let apart = nowhere lent full first len 0 fs bytes slots lands in
        let entries : (seen full slots).entry_bytes ≡ (seen m slots).entry_bytes = (λ k a b. apart.entries a b (entry_else a b) k) ∙ besides.entries slots in
        record {
          range = λ pages within.
              z.range pages (subst (λ w. off / w + span w off len ≤ pages) (sym same_page) (subst (λ w. off / m.frames.page + span m.frames.page off w ≤ pages) (sym size) within))
              ∙ ap (λ w. overlaid off (range_bytes u fs w len) (entries_bytes (seen full slots) o 0 pages)) (ap (λ w. off % w) same_page ∙ sym place)
              ∙ ap (λ l. overlaid off l (entries_bytes (seen full slots) o 0 pages)) full_bytes
              ∙ ap (λ (e : ℕ → ℕ → List ℕ). overlaid off bytes (entries_bytes (record { entry_bytes = e; kept_bytes = (seen full slots).kept_bytes }) o 0 pages)) entries;
          objects = λ a b ne. z.objects a b ne ∙ ap (λ (e : ℕ → ℕ → List ℕ). e a b) entries;
          others = λ f. ⊎_elim
              (λ (some : 0 < times fs f).
              unseen (owner_at new.frames f) (counts_at new.frames f) (bytes_at new.frames f) (y.unowned f some) (y.sound.lent f).nobody (y.ended f some)
              ∙ sym (ap (λ (w : Owner). if is_kept w (counts_at m.frames f) then bytes_at m.frames f else []) (x.were_free f some)))
              (λ (none : times fs f ≡ 0). z.others f none ∙ apart.frames_kept f none ∙ besides.others slots f none)
              (some_or (times fs f));
        }

    touches_full : Touches (is_in_range o (off / m.frames.page) (span m.frames.page off (length bytes))) full new
    touches_full = subst (λ w. Touches (is_in_range o (off / m.frames.page) (span m.frames.page off w)) full new) size (subst (λ w. Touches (is_in_range o (off / w) (span w off len)) full new) same_page y.touches)

    pub bytes_stored : MetersRise (2 ^ 33) m.frames u → StoresBytes m new o off bytes
    bytes_stored rises = record {
      sound = y.sound;
      shows = shows;
      keeps = keeps;
      touches = let z = touches_full in record {
        entries = z.entries;
        pages = λ p out. z.pages p (record { there = out.there; named = out.named });
        outside = λ p out. z.outside p (record { there = out.there; named = out.named });
        counts = λ p f out at. same_all f.0;
      };
      rises = rises_most (2 ^ 33 + 2 ^ 20) (2 ^ 34) m.frames new.frames (omega arith) (rises_on (2 ^ 33) (2 ^ 20) m.frames u new.frames rises y.rises);
    }
