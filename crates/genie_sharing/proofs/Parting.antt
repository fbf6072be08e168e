-- A page of its own in a frame that was taken for it.
use Rattle.std.proofs.Common.{◌≡◌, ℕ, ◌<◌, List, [], ◌∷◌, refl, arith, ap, length, sym, ◌∙◌, set}
use Rattle.std.proofs.lemmas.List.{take_all}
use Rattle.genie_base.specs.Bytes.{overlaid, part}
use Rattle.genie_frame.specs.declared.frame.FrameId.{FrameId}
use Rattle.genie_frame.specs.declared.frame.Owner.TheVariants.{Free, Page}
use Rattle.genie_frame.specs.FrameTable.{FrameTable, owner_at, bytes_at, set_owner, IsShaped}
use Rattle.genie_frame.specs.Frames.{stored, more_copied, more_taken}
use Rattle.genie_object.specs.declared.pages.PageInfo.{PageInfo}
use Rattle.genie_object.specs.declared.pages.Place.TheVariants.{Zero, Frame}
use Rattle.genie_object.specs.declared.memory.Memory.{Memory}
use Rattle.genie_object.specs.Leaving.{IsEmpty}
use Rattle.genie_object.specs.Objects.{object_at}
use Rattle.genie_object.specs.Pages.{PageTable, page_at, no_page, set_page}
use Rattle.genie_object.specs.Sound.{IsSound}
use Rattle.genie_object.specs.Steps.{CanRename, left_owners, left_slots, renamed}
use Rattle.genie_object.specs.Lemmas.Renamed.{of_q}
use Rattle.genie_sharing.specs.Copying.{PartsFrom}

overlaid-whole : (new old : List ℕ) → length new ≡ length old → overlaid 0 new old ≡ new
overlaid-whole [] [] e = refl
overlaid-whole [] (o ∷ old) e = absurd (omega arith)
overlaid-whole (b ∷ new) [] e = absurd (omega arith)
overlaid-whole (b ∷ new) (o ∷ old) e = ap (λ l. b ∷ l) (overlaid-whole new old (omega arith))

pub full_size : (t : FrameTable) (f : ℕ) → IsShaped t.page t.owners t.counts t.bytes → f < length t.owners → length (bytes_at t f) ≡ t.page
full_size t f s l = s.paged f [] (omega (arith, s.filled))

-- an empty entry may get a page of its own
pub can_rename : (m : Memory) (o i q : ℕ) → IsSound m → i < length (object_at m.objects o) → IsEmpty m o i → page_at m.pages.pages q ≡ no_page → q < length m.pages.pages → CanRename m o i q
can_rename m o i q s l empty spare room = record { sound = s; there = l; many = λ p e. let bad = sym empty ∙ e in cc; spare = spare; room = room }

pub parts_from : (m r : Memory) (t u : FrameTable) (pages : PageTable) (f o i q n : ℕ) (g : FrameId) → IsSound m → f < length m.frames.owners → i < length (object_at m.objects o) → IsEmpty m o i
    → q < length m.pages.pages → page_at m.pages.pages q ≡ no_page → r ≡ renamed m o i q
    → g.0 < length r.frames.owners → owner_at r.frames g.0 ≡ Free → t ≡ more_taken (set_owner r.frames g.0 (Page q))
    → n ≡ t.page → u ≡ more_copied (stored t g.0 0 (part 0 n (bytes_at t f))) n
    → pages ≡ set_page r.pages q (record (page_at r.pages.pages q) { place = Frame g })
    → PartsFrom m (record { frames = u; pages = pages; objects = r.objects; slots = r.slots }) f o i
parts_from m r t u pages f o i q n g s lf l empty room spare er lg free et en eu ep =
    let b : List ℕ = bytes_at m.frames f in
    let base : Memory = renamed m o i q in
    let zero : (page_at base.pages.pages q).place ≡ Zero = ap (λ (x : PageInfo). x.place) (of_q m o i q (can_rename m o i q s l empty spare room)) in
    let there : g.0 < length m.frames.owners = omega (arith, lg, ap (λ (x : Memory). length x.frames.owners) er) in
    let taken : t ≡ more_taken (set_owner m.frames g.0 (Page q)) = et ∙ ap (λ (x : Memory). more_taken (set_owner x.frames g.0 (Page q))) er in
    let size : n ≡ m.frames.page = en ∙ ap (λ (x : FrameTable). x.page) taken in
    let whole : part 0 n b ≡ b = take_all n b (omega (arith, size, full_size m.frames f s.shaped lf)) in
    let laid : overlaid 0 (part 0 n b) (bytes_at m.frames g.0) ≡ b = ap (λ l. overlaid 0 l (bytes_at m.frames g.0)) whole ∙ overlaid-whole b (bytes_at m.frames g.0) (full_size m.frames f s.shaped lf ∙ sym (full_size m.frames g.0 s.shaped there)) in
    let copied : u ≡ more_copied (stored (more_taken (set_owner m.frames g.0 (Page q))) g.0 0 (part 0 n b)) n = eu ∙ ap (λ (x : FrameTable). more_copied (stored x g.0 0 (part 0 n (bytes_at x f))) n) taken in
    let frames : u ≡ record (m.frames) { owners = set m.frames.owners g.0 (Page q); bytes = set m.frames.bytes g.0 b; meters = u.meters } = copied ∙ (λ k. record (m.frames) { owners = set m.frames.owners g.0 (Page q); bytes = set m.frames.bytes g.0 (laid k); meters = (sym copied k).meters }) in
    record {
      number = q;
      frame = g;
      room = room;
      spare = spare;
      there = there;
      was_free = sym (ap (λ (x : Memory). owner_at x.frames g.0) er) ∙ free;
      full = full_size m.frames f s.shaped lf;
      arrived =
          (λ k. record { frames = frames k; pages = ep k; objects = (er k).objects; slots = (er k).slots })
          ∙ (λ k. record { frames = record (m.frames) { owners = set m.frames.owners g.0 (Page q); bytes = set m.frames.bytes g.0 b; meters = u.meters }; pages = set_page (er k).pages q (record (page_at (er k).pages.pages q) { place = Frame g }); objects = base.objects; slots = m.slots })
          ∙ (λ k. record { frames = record (m.frames) { owners = left_owners (set m.frames.owners g.0 (Page q)) m.frames.counts (sym zero k); bytes = set m.frames.bytes g.0 b; meters = u.meters }; pages = set_page base.pages q (record (page_at base.pages.pages q) { place = Frame g }); objects = base.objects; slots = left_slots m.slots (sym zero k) });
    }
