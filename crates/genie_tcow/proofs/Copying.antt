-- Bytes are copied to a frame of the transfer's own.
use Rattle.std.proofs.Common.{◌≡◌, ℕ, zero, suc, ◌-◌, ◌<◌, ◌≤◌, true, false, List, [], ◌∷◌, length, drop, refl, ap, sym, ◌∙◌, arith, rules, length-drop, length-set, set, inl, inr}
use Rattle.std.specs.Prelude.{nat_lt, if◌then◌else◌}
use Rattle.std.proofs.lemmas.Bool.{cases_lt}
use Rattle.std.proofs.lemmas.Bool.Decides.{nat_tests}
use Rattle.std.proofs.lemmas.List.{take_all, set-set, get_or-set_same}
use Rattle.genie_base.specs.Bytes.{overlaid, part}
use Rattle.genie_base.specs.Lemmas.Overlaid.{length-overlaid}
use Rattle.genie_frame.specs.declared.frame.Owner.TheVariants.{Free, System}
use Rattle.genie_frame.specs.declared.frame.Counts.{Counts}
use Rattle.genie_frame.specs.FrameTable.{FrameTable, owner_at, counts_at, bytes_at, set_owner, set_counts, is_owned, is_lent}
use Rattle.genie_frame.specs.Frames.{stored, more_taken, more_copied, one_strong_more}
use Rattle.genie_object.specs.declared.memory.Memory.{Memory}
use Rattle.genie_object.specs.Sound.{IsSound}
use Rattle.genie_object.specs.Steps.{metered}
use Rattle.genie_object.specs.declared.pages.Place.{Place}
use Rattle.genie_store.specs.StoreView.{StoreView}
use Rattle.genie_fault.specs.Resolving.{IsLoaded}
use Rattle.genie_plan.specs.Loans.{Strong}
use Rattle.genie_tcow.specs.Lending.{lent_more, claimed, IsFilled, IsClaimed}
use Rattle.genie_tcow.specs.Ranges.{piece_of}

overlaid-whole : (new old : List ℕ) → length new ≡ length old → overlaid 0 new old ≡ new
overlaid-whole [] [] e = refl
overlaid-whole [] (o ∷ old) e = absurd (omega (arith, e))
overlaid-whole (b ∷ new) [] e = absurd (omega (arith, e))
overlaid-whole (b ∷ new) (o ∷ old) e = ap (λ l. b ∷ l) (overlaid-whole new old (omega (arith, e)))

pub full_size : (m : Memory) (f : ℕ) → IsSound m → f < length m.frames.owners → length (bytes_at m.frames f) ≡ m.frames.page
full_size m f s l = s.shaped.paged f [] (omega (arith, l, s.shaped.filled))

no_strong : (c : Counts) → is_lent c ≡ false → c.strong ≡ 0
no_strong c e = grind (arith, rules)

lt_true : (a b : ℕ) → a < b → nat_lt a b ≡ true
lt_true a b h = grind (arith, nat_tests)

lt_false : (a b : ℕ) → b ≤ a → nat_lt a b ≡ false
lt_false a b h = grind (arith, nat_tests)

-- the whole of a frame was copied, and the copy lent
pub is_claimed : (m : Memory) (a b t : FrameTable) (f id g n : ℕ) → IsSound m → f < length m.frames.owners → g < length m.frames.owners → owner_at m.frames g ≡ Free → n ≡ m.frames.page → a ≡ more_taken (set_owner m.frames g (System id)) → b ≡ more_copied (stored a g 0 (part 0 n (bytes_at a f))) n → t ≡ set_counts b g (one_strong_more (counts_at b g)) → IsClaimed m (record m { frames = t }) id g (bytes_at m.frames f)
is_claimed m a b t f id g n s l there free whole ea eb et =
    let size : length (bytes_at m.frames f) ≡ n = full_size m f s l ∙ sym whole in
    let all : part 0 n (bytes_at m.frames f) ≡ bytes_at m.frames f = take_all n (bytes_at m.frames f) (omega (arith, size)) in
    let laid : overlaid 0 (part 0 n (bytes_at m.frames f)) (bytes_at m.frames g) ≡ bytes_at m.frames f = ap (λ xs. overlaid 0 xs (bytes_at m.frames g)) all ∙ overlaid-whole (bytes_at m.frames f) (bytes_at m.frames g) (size ∙ whole ∙ sym (full_size m g s there)) in
    let c : FrameTable = more_copied (stored (more_taken (set_owner m.frames g (System id))) g 0 (part 0 n (bytes_at m.frames f))) n in
    let eb' : b ≡ c = eb ∙ ap (λ (u : FrameTable). more_copied (stored u g 0 (part 0 n (bytes_at u f))) n) ea in
    let et' : t ≡ set_counts c g (one_strong_more (counts_at c g)) = et ∙ ap (λ (u : FrameTable). set_counts u g (one_strong_more (counts_at u g))) eb' in
    let mt : c.meters ≡ t.meters = sym (ap (λ (u : FrameTable). u.meters) et') in
    record {
      there = there;
      was_free = free;
      full = full_size m f s l;
      is = (λ k. record m { frames = et' k }) ∙ (λ k. metered (lent_more (claimed m g id (laid k)) Strong g) (mt k));
    }

-- bytes that were laid in their own place
part_laid : (off n : ℕ) (xs ys : List ℕ) → length xs ≡ length ys → part off n (overlaid off (part off n xs) ys) ≡ part off n xs
part_laid zero zero xs ys e = refl
part_laid zero (suc n) [] [] e = refl
part_laid zero (suc n) [] (y ∷ ys) e = absurd (omega (arith, e))
part_laid zero (suc n) (x ∷ xs) [] e = absurd (omega (arith, e))
part_laid zero (suc n) (x ∷ xs) (y ∷ ys) e = ap (λ l. x ∷ l) (part_laid zero n xs ys (omega (arith, e)))
part_laid (suc off) n [] [] e = refl
part_laid (suc off) n [] (y ∷ ys) e = absurd (omega (arith, e))
part_laid (suc off) n (x ∷ xs) [] e = absurd (omega (arith, e))
part_laid (suc off) n (x ∷ xs) (y ∷ ys) e = part_laid off n xs ys (omega (arith, e))

-- as many bytes as are left, or lie in the page
pub part_piece : (page off left : ℕ) (xs : List ℕ) → length xs ≡ page → off ≤ page → part off (piece_of page off left) xs ≡ part off left xs
part_piece page off left xs size inside = elim (cases_lt left (page - off)) [
  | inl h ↦ ap (λ b. part off (if b then left else page - off) xs) (lt_true left (page - off) h)
  | inr h ↦
      let rest : length (drop off xs) ≡ page - off = length-drop off xs ∙ ap (λ n. n - off) size in
      ap (λ b. part off (if b then left else page - off) xs) (lt_false left (page - off) h) ∙ take_all (page - off) (drop off xs) (omega (arith, rest)) ∙ sym (take_all left (drop off xs) (omega (arith, rest, h)))
]

-- bytes of a frame were copied to a free one
module _ (m : Memory) (a b : FrameTable) (f id g off n : ℕ) (s : IsSound m) (there : f < length m.frames.owners) (room : g < length m.frames.owners) (free : owner_at m.frames g ≡ Free) (ea : a ≡ more_taken (set_owner m.frames g (System id))) (eb : b ≡ more_copied (stored a g off (part off n (bytes_at a f))) n) where
  all : b ≡ more_copied (stored (more_taken (set_owner m.frames g (System id))) g off (part off n (bytes_at m.frames f))) n
  all = eb ∙ ap (λ (u : FrameTable). more_copied (stored u g off (part off n (bytes_at u f))) n) ea

  laid : bytes_at b g ≡ overlaid off (part off n (bytes_at m.frames f)) (bytes_at m.frames g)
  laid = ap (λ (u : FrameTable). bytes_at u g) all ∙ get_or-set_same m.frames.bytes g _ [] (omega (arith, room, s.shaped.filled))

  pub copy_filled : IsFilled m (record m { frames = b }) id g
  copy_filled = record {
    there = room;
    was_free = free;
    full = ap length laid ∙ length-overlaid off _ (bytes_at m.frames g) ∙ full_size m g s room;
    is = (λ k. record m { frames = all k }) ∙ (λ k. metered (claimed m g id (sym laid k)) ((ap (λ (u : FrameTable). u.meters) (sym all)) k));
  }

  pub copy_part : part off n (bytes_at b g) ≡ part off n (bytes_at m.frames f)
  copy_part = ap (part off n) laid ∙ part_laid off n (bytes_at m.frames f) (bytes_at m.frames g) (full_size m f s there ∙ sym (full_size m g s room))

-- a frame of the system that was loaded is the transfer's
module _ (m mid : Memory) (v : StoreView) (place : Place) (id g : ℕ) (s : IsSound m) (x : IsLoaded m mid v place g) where
  pub loaded_owned : is_owned (owner_at mid.frames g) ≡ true
  loaded_owned = ap (λ (n : Memory). is_owned (owner_at n.frames g)) x.arrived ∙ ap is_owned (get_or-set_same m.frames.owners g (System 0) Free x.there)

  pub loaded_there : g < length mid.frames.owners
  loaded_there = omega (arith, x.there, ap (λ (n : Memory). length n.frames.owners) x.arrived, length-set m.frames.owners g (System 0))

  pub loaded_unlent : is_lent (counts_at mid.frames g) ≡ false
  loaded_unlent = ap (λ (n : Memory). is_lent (counts_at n.frames g)) x.arrived ∙ (s.lent g).free x.was_free

  pub load_filled : (t : FrameTable) → t ≡ set_owner mid.frames g (System id) → IsFilled m (record mid { frames = t }) id g
  load_filled t e =
      let same : bytes_at t g ≡ bytes_at mid.frames g = ap (λ (u : FrameTable). bytes_at u g) e in
      let meters : t.meters ≡ mid.frames.meters = ap (λ (u : FrameTable). u.meters) e in
      record {
        there = x.there;
        was_free = x.was_free;
        full = ap length same ∙ x.full;
        is = (λ k. record mid { frames = e k }) ∙ (λ k. record (x.arrived k) { frames = set_owner (x.arrived k).frames g (System id) }) ∙ (λ k. record m { frames = record (m.frames) { owners = set-set m.frames.owners g (System 0) (System id) k; bytes = set m.frames.bytes g (sym same k); meters = sym meters k } });
      }

-- a filled frame may be lent, and is one that was claimed then
module _ (m mid : Memory) (id g : ℕ) (s : IsSound m) (x : IsFilled m mid id g) where
  pub filled_owner : owner_at mid.frames g ≡ System id
  filled_owner = ap (λ (n : Memory). owner_at n.frames g) x.is ∙ get_or-set_same m.frames.owners g (System id) Free x.there

  pub filled_there : g < length mid.frames.owners
  filled_there = omega (arith, x.there, ap (λ (n : Memory). length n.frames.owners) x.is, length-set m.frames.owners g (System id))

  pub filled_unlent : (counts_at mid.frames g).strong ≡ 0
  filled_unlent = ap (λ (n : Memory). (counts_at n.frames g).strong) x.is ∙ no_strong (counts_at m.frames g) ((s.lent g).free x.was_free)

  pub filled_claimed : (t : FrameTable) → t ≡ set_counts mid.frames g (one_strong_more (counts_at mid.frames g)) → IsClaimed m (record mid { frames = t }) id g (bytes_at t g)
  filled_claimed t e =
      let same : bytes_at t g ≡ bytes_at mid.frames g = ap (λ (u : FrameTable). bytes_at u g) e in
      let meters : t.meters ≡ mid.frames.meters = ap (λ (u : FrameTable). u.meters) e in
      record {
        there = x.there;
        was_free = x.was_free;
        full = ap length same ∙ x.full;
        is = (λ k. record mid { frames = e k }) ∙ (λ k. lent_more (x.is k) Strong g) ∙ (λ k. metered (lent_more (claimed m g id (sym same k)) Strong g) (sym meters k));
      }
