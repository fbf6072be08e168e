-- What a memory shows once the owner or the counts of one frame changed.
use Rattle.std.proofs.Common.{◌≡◌, ◌≢◌, ℕ, ◌<◌, true, false, List, [], refl, arith, ap, rules, length, get_or, sym, ◌∙◌, get_or-set_other, get_or-set_same}
use Rattle.std.specs.Prelude.{IsTrue, ◌+◌, ◌==◌, nat_lt, if◌then◌else◌}
use Rattle.genie_frame.specs.declared.frame.Owner.{Owner}
use Rattle.genie_frame.specs.declared.frame.Owner.TheVariants.{Free, Page, System, Pool, Nobody}
use Rattle.genie_frame.specs.declared.frame.Counts.{Counts}
use Rattle.genie_frame.specs.FrameTable.{FrameTable, set_owner, set_counts, owner_at, counts_at, bytes_at, is_page, is_lent, is_owned, no_counts, IsShaped}
use Rattle.genie_frame.specs.Frames.{unowned, left_to, loan_ended, one_strong_more}
use Rattle.genie_object.specs.declared.memory.Memory.{Memory}
use Rattle.genie_object.specs.Objects.{entry_at}
use Rattle.genie_object.specs.Memory.{Seen, seen, see_kept, is_kept, page_bytes}
use Rattle.genie_object.specs.Keeping.{OnlyFrame, shown, ShowsFrame, ShowsSameBytes, ShowsDisowned, ShowsGiven, ShowsTaken, ShowsLent, ShowsEnded, ShowsUnseenEnd, ShowsLastLoan, ShowsUnlent}

-- the bytes of frame g once the owner and the counts of frame f changed
kept_bytes : (old new : Memory) (f : ℕ) (slots : ℕ → List ℕ) → OnlyFrame f old.frames new.frames → (g : ℕ) → (seen new slots).kept_bytes g ≡ (see_kept (seen old slots) f (shown (owner_at new.frames f) (counts_at new.frames f) (bytes_at old.frames f))).kept_bytes g
kept_bytes old new f slots x g =
    elim (g == f) as (λ v. (g == f) ≡ v → (seen new slots).kept_bytes g ≡ (if v then shown (owner_at new.frames f) (counts_at new.frames f) (bytes_at old.frames f) else (seen old slots).kept_bytes g)) [
      | true ↦ λ e. let same : g ≡ f = grind (arith, rules) in rw same (λ k. shown (owner_at new.frames f) (counts_at new.frames f) (get_or (x.bytes k) f []))
      | false ↦ λ e. let other : g ≢ f = grind (arith, rules) in λ k. shown (x.owners g other k) (x.counts g other k) (get_or (x.bytes k) g [])
    ] refl

pub shows_frame : ShowsFrame
shows_frame old new f slots x pages objects = λ k. record {
  entry_bytes = λ a i. let t : FrameTable = record { page = x.page k; owners = old.frames.owners; counts = old.frames.counts; bytes = x.bytes k; meters = old.frames.meters; landed = old.frames.landed } in page_bytes t (pages k) slots (entry_at (objects k) a i).page;
  kept_bytes = λ g. kept_bytes old new f slots x g k;
}

again : (s : Seen) (f g : ℕ) → (if g == f then s.kept_bytes f else s.kept_bytes g) ≡ s.kept_bytes g
again s f g =
    elim (g == f) as (λ v. (g == f) ≡ v → (if v then s.kept_bytes f else s.kept_bytes g) ≡ s.kept_bytes g) [
      | true ↦ λ e. let same : g ≡ f = grind (arith, rules) in ap s.kept_bytes (sym same)
      | false ↦ λ e. refl
    ] refl

pub shows_same_bytes : ShowsSameBytes
shows_same_bytes s f = λ k. record { entry_bytes = s.entry_bytes; kept_bytes = λ g. again s f g k }

shows_owner : (m : Memory) (f : ℕ) (owner : Owner) (slots : ℕ → List ℕ) → f < length m.frames.owners → seen (record m { frames = set_owner m.frames f owner }) slots ≡ see_kept (seen m slots) f (shown owner (counts_at m.frames f) (bytes_at m.frames f))
shows_owner m f owner slots l =
    let only : OnlyFrame f m.frames (set_owner m.frames f owner) = record {
      page = refl;
      owners = λ g n. get_or-set_other m.frames.owners f g owner Free n;
      counts = λ g n. refl;
      bytes = refl;
    } in
    shows_frame m (record m { frames = set_owner m.frames f owner }) f slots only refl refl ∙ (λ k. see_kept (seen m slots) f (shown (get_or-set_same m.frames.owners f owner Free l k) (counts_at m.frames f) (bytes_at m.frames f)))

shown_disowned : (c : Counts) (b : List ℕ) → shown (unowned c) c b ≡ (if is_lent c then b else [])
shown_disowned c b = elim (is_lent c) as (λ v. (if is_kept (if v then Nobody else Free) c then b else []) ≡ (if v then b else [])) [ true ↦ refl | false ↦ refl ]

pub shows_disowned : ShowsDisowned
shows_disowned m f slots l = shows_owner m f (unowned (counts_at m.frames f)) slots l ∙ ap (see_kept (seen m slots) f) (shown_disowned (counts_at m.frames f) (bytes_at m.frames f))

none_strong : (c : Counts) → is_lent c ≡ false → nat_lt 0 c.strong ≡ false
none_strong c e = grind (e, rules)

shown_given : (o : Owner) (c : Counts) (b : List ℕ) → is_lent c ≡ false → IsTrue (is_owned o) → shown o c b ≡ (if is_page o then [] else b)
shown_given Free c b e h = cc
shown_given (Page p) c b e h = ap (λ v. if v then b else []) (none_strong c e)
shown_given (System t) c b e h = refl
shown_given (Pool d) c b e h = refl
shown_given Nobody c b e h = cc

pub shows_given : ShowsGiven
shows_given m f owner slots l e h = shows_owner m f owner slots l ∙ ap (see_kept (seen m slots) f) (shown_given owner (counts_at m.frames f) (bytes_at m.frames f) e h)

pub shows_taken : ShowsTaken
shows_taken m f owner slots s l is h = shows_given m f owner slots l ((s f).free is) h

within_counts : (m : Memory) (f : ℕ) → IsShaped m.frames.page m.frames.owners m.frames.counts m.frames.bytes → f < length m.frames.owners → f < length m.frames.counts
within_counts m f s l = omega (arith, s.counted, l)

shows_counted : (m : Memory) (f : ℕ) (c : Counts) (slots : ℕ → List ℕ) → IsShaped m.frames.page m.frames.owners m.frames.counts m.frames.bytes → f < length m.frames.owners → seen (record m { frames = set_counts m.frames f c }) slots ≡ see_kept (seen m slots) f (shown (owner_at m.frames f) c (bytes_at m.frames f))
shows_counted m f c slots s l =
    let only : OnlyFrame f m.frames (set_counts m.frames f c) = record {
      page = refl;
      owners = λ g n. refl;
      counts = λ g n. get_or-set_other m.frames.counts f g c no_counts n;
      bytes = refl;
    } in
    shows_frame m (record m { frames = set_counts m.frames f c }) f slots only refl refl ∙ (λ k. see_kept (seen m slots) f (shown (owner_at m.frames f) (get_or-set_same m.frames.counts f c no_counts (within_counts m f s l) k) (bytes_at m.frames f)))

shown_lent : (o : Owner) (c : Counts) (b : List ℕ) → IsTrue (is_owned o) → shown o (one_strong_more c) b ≡ b
shown_lent Free c b h = cc
shown_lent (Page p) c b h = let more : nat_lt 0 (c.strong + 1) ≡ true = grind (arith, rules) in ap (λ v. if v then b else []) more
shown_lent (System t) c b h = refl
shown_lent (Pool d) c b h = refl
shown_lent Nobody c b h = refl

pub shows_lent : ShowsLent
shows_lent m f slots s l h = shows_counted m f (one_strong_more (counts_at m.frames f)) slots s l ∙ ap (see_kept (seen m slots) f) (shown_lent (owner_at m.frames f) (counts_at m.frames f) (bytes_at m.frames f) h)

pub shows_ended : ShowsEnded
shows_ended m f left slots s l =
    let owner = left_to (owner_at m.frames f) left in
    let only : OnlyFrame f m.frames (loan_ended m.frames f left) = record {
      page = refl;
      owners = λ g n. get_or-set_other m.frames.owners f g owner Free n;
      counts = λ g n. get_or-set_other m.frames.counts f g left no_counts n;
      bytes = refl;
    } in
    shows_frame m (record m { frames = loan_ended m.frames f left }) f slots only refl refl ∙ (λ k. see_kept (seen m slots) f (shown (get_or-set_same m.frames.owners f owner Free l k) (get_or-set_same m.frames.counts f left no_counts (within_counts m f s l) k) (bytes_at m.frames f)))

pub shows_unseen_end : ShowsUnseenEnd
shows_unseen_end m f left slots s l e = shows_ended m f left slots s l ∙ (λ k. see_kept (seen m slots) f (if e k then bytes_at m.frames f else [])) ∙ shows_same_bytes (seen m slots) f

pub shows_last_loan : ShowsLastLoan
shows_last_loan m f left slots s l is e = shows_ended m f left slots s l ∙ (λ k. see_kept (seen m slots) f (shown (left_to (is k) left) left (bytes_at m.frames f))) ∙ (λ k. see_kept (seen m slots) f (shown (if e k then Nobody else Free) left (bytes_at m.frames f)))

pub shows_unlent : ShowsUnlent
shows_unlent m f p left slots s l is e = shows_ended m f left slots s l ∙ (λ k. see_kept (seen m slots) f (shown (left_to (is k) left) left (bytes_at m.frames f))) ∙ (λ k. see_kept (seen m slots) f (if nat_lt 0 (e k) then bytes_at m.frames f else []))
