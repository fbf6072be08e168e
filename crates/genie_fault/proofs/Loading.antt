-- A frame that is filled whole.
use Rattle.std.proofs.Common.{◌≡◌, ℕ, ◌<◌, ◌+◌, ◌-◌, ◌^◌, suc, zero, List, [], ◌∷◌, refl, arith, ap, length, take, ◌∙◌, sym, set, get_or-set_same}
use Rattle.std.specs.Prelude.{Ok, Option, Some, None, IfSome, replicate, if◌then◌else◌}
use Rattle.std.proofs.lemmas.List.{length-replicate, set-set, set-get_or}
use Rattle.genie_base.specs.Bytes.{overlaid, part}
use Rattle.genie_frame.specs.declared.frame.Meters.{Meters}
use Rattle.genie_frame.specs.declared.frame.FrameId.{FrameId}
use Rattle.genie_frame.specs.declared.frame.Owner.TheVariants.{Free, System, Nobody}
use Rattle.genie_frame.specs.FrameTable.{FrameTable, bytes_at, owner_at, counts_at, set_bytes, set_owner, IsShaped, AreLoansOwned}
use Rattle.genie_frame.specs.Frames.{stored, unowned}
use Rattle.genie_store.specs.StoreView.{StoreView}
use Rattle.genie_object.specs.declared.pages.Place.{Place}
use Rattle.genie_object.specs.declared.pages.Place.TheVariants.{Zero, Frame}
use Rattle.genie_object.specs.Memory.{place_bytes}
use Rattle.genie_fault.specs.Resolving.{Loads}
use Rattle.genie_object.specs.Costs.{AreBelow}

pub overlaid-whole : (new old : List ℕ) → length new ≡ length old → overlaid 0 new old ≡ new
overlaid-whole [] [] e = refl
overlaid-whole [] (o ∷ old) e = absurd (omega arith)
overlaid-whole (b ∷ new) [] e = absurd (omega arith)
overlaid-whole (b ∷ new) (o ∷ old) e = ap (λ l. b ∷ l) (overlaid-whole new old (omega arith))

if_some : {X : Type 0} (o : Option X) (P : X → Type 0) → ((x : X) → P x) → IfSome o P
if_some None P h = tt
if_some (Some x) P h = h x

take-all : (n : ℕ) (xs : List ℕ) → length xs ≡ n → take n xs ≡ xs
take-all zero [] e = refl
take-all (suc n) [] e = refl
take-all zero (x ∷ xs) e = absurd (omega arith)
take-all (suc n) (x ∷ xs) e = ap (λ l. x ∷ l) (take-all n xs (omega arith))

pub full_size : (t : FrameTable) (f : ℕ) → IsShaped t.page t.owners t.counts t.bytes → f < length t.owners → length (bytes_at t f) ≡ t.page
full_size t f s l = s.paged f [] (omega (arith, s.filled))

-- a frame that has other bytes from its first to its last
pub loads_whole : {T E : Type 0} (old new : FrameTable) (f : ℕ) (place : Place) (v : StoreView) (bytes : List ℕ) (t : T) → IsShaped old.page old.owners old.counts old.bytes → f < length old.owners → length bytes ≡ old.page → new ≡ record (stored old f 0 bytes) { meters = new.meters } → ((slots : ℕ → List ℕ) → bytes ≡ place_bytes old slots place) → Loads {T = T} {E = E} old new f place v (Ok t)
loads_whole old new f place v bytes t s l n e is =
    let laid : overlaid 0 bytes (bytes_at old f) ≡ bytes = overlaid-whole bytes (bytes_at old f) (n ∙ sym (full_size old f s l)) in
    let has : bytes_at new f ≡ bytes = ap (λ (u : FrameTable). bytes_at u f) e ∙ get_or-set_same old.bytes f _ [] (omega (arith, s.filled)) ∙ laid in
    let same : overlaid 0 bytes (bytes_at old f) ≡ bytes_at new f = laid ∙ sym has in
    record {
      frames = e ∙ (λ k. record (set_bytes old f (same k)) { meters = new.meters });
      full = ap length has ∙ n;
      bytes = if_some v.slots (λ slots. bytes_at new f ≡ place_bytes old slots place) (λ slots. has ∙ is slots);
      left = tt;
    }

pub loads_zero : {T E : Type 0} (old new : FrameTable) (f : ℕ) (v : StoreView) (t : T) → IsShaped old.page old.owners old.counts old.bytes → f < length old.owners → new ≡ record (stored old f 0 (replicate old.page 0)) { meters = new.meters } → Loads {T = T} {E = E} old new f Zero v (Ok t)
loads_zero old new f v t s l e = loads_whole old new f Zero v (replicate old.page 0) t s l (length-replicate old.page 0) e (λ slots. refl)

pub loads_copy : {T E : Type 0} (old new : FrameTable) (f : ℕ) (g : FrameId) (v : StoreView) (t : T) → IsShaped old.page old.owners old.counts old.bytes → f < length old.owners → g.0 < length old.owners → new ≡ record (stored old f 0 (part 0 old.page (bytes_at old g.0))) { meters = new.meters } → Loads {T = T} {E = E} old new f (Frame g) v (Ok t)
loads_copy old new f g v t s l h e =
    let all = take-all old.page (bytes_at old g.0) (full_size old g.0 s h) in
    loads_whole old new f (Frame g) v (part 0 old.page (bytes_at old g.0)) t s l (ap length all ∙ full_size old g.0 s h) e (λ slots. all)

pub below_taken : (old new : Meters) → AreBelow (2 ^ 64 - 2 ^ 20) old → new ≡ record old { taken = old.taken + 1 } → AreBelow (2 ^ 64 - 2 ^ 16) new
below_taken old new b e = rw e (record { read = omega (arith, b.read); written = omega (arith, b.written); copied = omega (arith, b.copied); zeroed = omega (arith, b.zeroed); puts = omega (arith, b.puts); gets = omega (arith, b.gets); taken = omega (arith, b.taken) })

-- a frame that was taken, keeps its bytes and is given up is as it was
pub given_up : (old mid : FrameTable) (g : ℕ) → AreLoansOwned old.owners old.counts → owner_at old g ≡ Free → mid ≡ record (set_bytes (set_owner old g (System 0)) g (bytes_at mid g)) { meters = mid.meters } → bytes_at mid g ≡ bytes_at old g → set_owner mid g (unowned (counts_at mid g)) ≡ record old { meters = mid.meters }
given_up old mid g lent free e h =
    let none : unowned (counts_at mid g) ≡ owner_at old g = ap (λ (t : FrameTable). unowned (counts_at t g)) e ∙ ap (λ b. if b then Nobody else Free) ((lent g).free free) ∙ sym free in
    let owners : set (set old.owners g (System 0)) g (unowned (counts_at mid g)) ≡ old.owners = set-set old.owners g (System 0) (unowned (counts_at mid g)) ∙ ap (set old.owners g) none ∙ set-get_or old.owners g Free in
    let bytes : set old.bytes g (bytes_at mid g) ≡ old.bytes = ap (set old.bytes g) h ∙ set-get_or old.bytes g [] in
    (λ k. set_owner (e k) g (unowned (counts_at mid g))) ∙ (λ k. record old { owners = owners k; bytes = bytes k; meters = mid.meters })
